use Rattle.std.proofs.Common.{rules, ◌≡◌, ◌∷◌, ◌++◌, [], ℕ, true, false, not, ◌||◌, List, length, Some, refl, sym, ◌∙◌, ap, ap₂}
use Rattle.std.specs.Str.{bytes_eq}
use Rattle.vw_design.specs.Distinct.{has_name, are_distinct}
use Rattle.vw_blif.specs.declared.fault.TextFault.TheVariants.{BadWords, DuplicateModel}
use Rattle.vw_design.specs.declared.word_set.WordSet.{WordSet}
use Rattle.vw_design.specs.Paths.{Word}
use Rattle.vw_blif.specs.Kinds.{further}
use Rattle.vw_blif.specs.Steps.Names.{opened, names_so_far}
use Rattle.vw_blif.specs.Steps.Blocks.{IsNew}
use Rattle.vw_design.specs.WordSets.{has_word}
use Rattle.vw_design.proofs.DistinctNames.{distinct_push}
use Rattle.vw_blif.proofs.ReaderLines.{wrong_count, one_word, names_begun, seen_before, knows_more, model_again, model_begun}
use Rattle.vw_blif.proofs.reader.Reader.begin_model.Goals.{in_default-via-then-further-lt1, in_default-via-else-further-lt1+else-this-lt2}
use Rattle.vw_blif.proofs.reader.Reader.begin_model.Goals as goal

pub returns-in_default-clause-refuses : goal.returns-in_default-clause-refuses
returns-in_default-clause-refuses c =
    let other : length c.further.result.now ≡ 1 → ⊥ = elim c.in_default.branch [ in_default-via-then-further-lt1 w ↦ λ one. search rules | in_default-via-else-further-lt1+else-this-lt2 w ↦ λ one. search rules ] in
    λ before told is.
    wrong_count c.args.line.now c.requires (λ one. other (ap (λ (words : List Word). length words) c.further.ensures ∙ one)) before
    ∙ ap (λ (n : ℕ). Some (BadWords n)) (sym c.number.ensures)

pub returns-then-not-branch-clause-refuses : goal.returns-then-not-branch-clause-refuses
returns-then-not-branch-clause-refuses c =
    let mid = c.in_ok-models.field-0 in
    let name = c.name-item.result in
    let old = λ (w : Word). has_word mid.names.value.words w in
    let one : further c.args.line.now ≡ name ∷ [] =
    sym c.further.ensures ∙ one_word c.further.result.now name c.in-len1.len_at_least c.in-len1.len_below c.name-item.is in
    let again : has_name (names_so_far mid.models.items (opened mid.block)) name ≡ true =
    seen_before (names_so_far mid.models.items (opened mid.block)) name (old name) c.in_ok-keep.field-0 (mid.knows name)
    (c.in_ok-keep.ensures.is_new ∙ ap₂ (λ (s : WordSet) (w : Word). not (has_word s.words w)) c.deref_mut.ensures.value c.as_slice.ensures) ∙ ap not c.if-not-branch.true in
    λ before told is.
    model_again c.args.self mid c.args.line.now name c.requires one c.in_ok-models.ensures again before told
    ∙ ap (λ (n : ℕ). Some (DuplicateModel n)) (sym c.number-then-not-branch.ensures)

pub invariant_of-result : goal.invariant_of-result
invariant_of-result c =
    let mid = c.in_ok-models.field-0 in
    let name = c.name-item.result in
    let old = λ (w : Word). has_word mid.names.value.words w in
    let new = λ (w : Word). has_word c.keep.new.words.words w in
    let names = names_so_far mid.models.items (opened mid.block) in
    let more : names_so_far mid.models.items (Some c.in_ok-new.field-0.value) ≡ names ++ name ∷ [] =
    names_begun mid.models.items (opened mid.block) c.in_ok-new.field-0.value name c.in_ok-models.ensures.block (c.in_ok-new.ensures.named ∙ c.in_ok-copy.ensures ∙ c.as_slice-2.ensures) in
    let unseen : has_name names name ≡ false =
    seen_before names name (old name) c.in_ok-keep.field-0 (mid.knows name)
    (c.in_ok-keep.ensures.is_new ∙ ap₂ (λ (s : WordSet) (w : Word). not (has_word s.words w)) c.deref_mut.ensures.value c.as_slice.ensures) ∙ ap not c.if-not-branch.false in
    let adds : (other : Word) → new other ≡ (bytes_eq name other || old other) =
    λ other. c.in_ok-keep.ensures.words other ∙ ap₂ (λ (s : WordSet) (w : Word). bytes_eq w other || has_word s.words other) c.deref_mut.ensures.value c.as_slice.ensures in
    record {
      knows = λ word. knows_more names name old new mid.knows adds word ∙ ap (λ (ns : List Word). has_name ns word) (sym more);
      distinct = ap are_distinct more ∙ distinct_push names name mid.distinct unseen;
      well_made = mid.well_made;
    }

pub returns-clause-reads : goal.returns-clause-reads
returns-clause-reads c =
    let mid = c.in_ok-models.field-0 in
    let name = c.name-item.result in
    let old = λ (w : Word). has_word mid.names.value.words w in
    let one : further c.args.line.now ≡ name ∷ [] =
    sym c.further.ensures ∙ one_word c.further.result.now name c.in-len1.len_at_least c.in-len1.len_below c.name-item.is in
    let unseen : has_name (names_so_far mid.models.items (opened mid.block)) name ≡ false =
    seen_before (names_so_far mid.models.items (opened mid.block)) name (old name) c.in_ok-keep.field-0 (mid.knows name)
    (c.in_ok-keep.ensures.is_new ∙ ap₂ (λ (s : WordSet) (w : Word). not (has_word s.words w)) c.deref_mut.ensures.value c.as_slice.ensures) ∙ ap not c.if-not-branch.false in
    let same : c.in_ok-copy.field-0 ≡ name = c.in_ok-copy.ensures ∙ c.as_slice-2.ensures in
    let fresh : IsNew name c.in_ok-new.field-0.value = record {
      named = c.in_ok-new.ensures.named ∙ same;
      inputs = c.in_ok-new.ensures.inputs;
      outputs = c.in_ok-new.ensures.outputs;
      clocks = c.in_ok-new.ensures.clocks;
      items = c.in_ok-new.ensures.items;
      table_ = c.in_ok-new.ensures.table_;
    } in
    model_begun c.args.self mid c.args.line.now name c.requires one c.in_ok-models.ensures _ c.in_ok-new.field-0.value refl refl fresh unseen
