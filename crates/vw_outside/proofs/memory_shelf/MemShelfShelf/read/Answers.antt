use Rattle.std.proofs.Common.{◌≡◌, Some, None, arith, rules, refl, subst}
use Rattle.vw_outside.specs.Reads.{Fills}
use Rattle.vw_outside.specs.Steps.TextPlaces.{text_place}
use Rattle.vw_outside.proofs.FaultCounts.{place_below, counts_at, counts_elsewhere, held_at, not_absent, not_held}
use Rattle.vw_outside.proofs.memory_shelf.MemShelfShelf.read.Goals as goal
use Rattle.vw_outside.proofs.memory_shelf.MemShelfShelf.read.Goals.{In-Some, In-None}

found : (c : In-Some) → text_place c.args.self.now.files.items c.args.name.now ≡ Some c.in-Some.place
found c = search rules

missing : (c : In-None) → text_place c.args.self.now.files.items c.args.name.now ≡ None
missing c = search rules

pub index_mut-file-requires : goal.index_mut-file-requires
index_mut-file-requires c =
    let files = c.args.self.now.files in
    omega (arith, files.ok.0, place_below files.items c.args.name.now c.in-Some.place (found ((goal.at.index_mut-file-requires c).In-Some)))

pub index-file-requires : goal.index-file-requires
index-file-requires c =
    let files = c.args.self.now.files in
    omega (arith, files.ok.0, place_below files.items c.args.name.now c.in-Some.place (found ((goal.at.index-file-requires c).In-Some)))

-- a listed read fails, and its fault is counted at the text
pub returns-in-Some-clause-reads : goal.returns-in-Some-clause-reads
returns-in-Some-clause-reads c = record {
  within = tt;
  held = λ bytes told. tt;
  absent = λ told. refl;
  done = tt;
  failed = counts_at _ _ _ _ c.index_mut-file.result.now _ (search rules) c.index_mut-file.ensures.value refl refl c.saturating_add-file.ensures (omega arith);
}

-- that of a name without a text is counted for all such names
pub returns-in-None-clause-reads : goal.returns-in-None-clause-reads
returns-in-None-clause-reads c = record {
  within = tt;
  held = λ bytes told. absurd (not_held c.args.self.now.files.items c.args.name.now bytes (missing ((goal.at.returns-in-None-clause-reads c).In-None)) told);
  absent = λ told. refl;
  done = tt;
  failed = counts_elsewhere _ _ _ _ (search rules) c.saturating_add-self-in-None.ensures (omega arith);
}

pub returns-in-None-clause-sure : goal.returns-in-None-clause-sure
returns-in-None-clause-sure c = λ bytes told unlisted. absurd (not_held c.args.self.now.files.items c.args.name.now bytes (missing ((goal.at.returns-in-None-clause-sure c).In-None)) told)

pub returns-in-Some-2-clause-reads : goal.returns-in-Some-2-clause-reads
returns-in-Some-2-clause-reads c = record {
  within = c.fill.ensures.within;
  held = λ bytes told.
      let same = held_at c.args.self.now.files.items c.args.name.now c.in-Some.place c.index-file.result.now bytes (found ((goal.at.returns-in-Some-2-clause-reads c).In-Some)) c.index-file.ensures told in
      let read : c.deref-in-Some-2.result.now ≡ bytes = cc in
      subst (λ text. Fills text c.args.from c.fill.new.into c.fill.result) read c.fill.ensures.filled;
  absent = λ told. absurd (not_absent c.args.self.now.files.items c.args.name.now c.in-Some.place c.index-file.result.now (found ((goal.at.returns-in-Some-2-clause-reads c).In-Some)) told);
  done = refl;
  failed = tt;
}

-- a name that is held isn't absent, and one without a text isn't held
pub returns-in-Some-clause-absent : goal.returns-in-Some-clause-absent
returns-in-Some-clause-absent c = λ told. absurd (not_absent c.args.self.now.files.items c.args.name.now c.in-Some.place c.index_mut-file.result.now (found ((goal.at.returns-in-Some-clause-absent c).In-Some)) told)

pub returns-in-Some-2-clause-absent : goal.returns-in-Some-2-clause-absent
returns-in-Some-2-clause-absent c = λ told. absurd (not_absent c.args.self.now.files.items c.args.name.now c.in-Some.place c.index-file.result.now (found ((goal.at.returns-in-Some-2-clause-absent c).In-Some)) told)

pub returns-in-None-clause-kept : goal.returns-in-None-clause-kept
returns-in-None-clause-kept c = λ bytes told. absurd (not_held c.args.self.now.files.items c.args.name.now bytes (missing ((goal.at.returns-in-None-clause-kept c).In-None)) told)
