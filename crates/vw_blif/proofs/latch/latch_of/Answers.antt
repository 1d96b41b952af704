use Rattle.std.proofs.Common.{◌≡◌, ◌≤◌, ◌-◌, ℕ, suc, Bool, not, List, [], ◌∷◌, length, take, drop, get_or, Option, ap, ap₂, refl, sym, ◌∙◌, length-take, length-drop, arith}
use Rattle.std.proofs.lemmas.List.{take_all}
use Rattle.vw_design.specs.Paths.{Word}
use Rattle.vw_blif.specs.Spelled.{latch}
use Rattle.vw_blif.specs.Latches.{written_of, is_type, is_init, edge_of, control_of, init_of, latch_of, has_bad_type, has_bad_init}
use Rattle.vw_blif.proofs.latch.latch_of.Goals as goal

-- the first two of some words and the others
parted : (words : List Word) (d q : Word) → 2 ≤ length words → d ≡ get_or words 0 d → q ≡ get_or words 1 q → words ≡ d ∷ q ∷ take (length words - 2) (drop 2 words)
parted [] d q many is_d is_q = absurd (omega (arith, many))
parted (one ∷ []) d q many is_d is_q = absurd (omega (arith, many))
parted (one ∷ other ∷ rest) d q many is_d is_q =
    let all : take (suc (suc (length rest)) - 2) rest ≡ rest = take_all (suc (suc (length rest)) - 2) rest (omega arith) in
    ap₂ (λ (first second : Word). first ∷ second ∷ rest) (sym is_d) (sym is_q) ∙ ap (λ (others : List Word). d ∷ q ∷ others) (sym all)

-- the latch of an input, an output and what is written behind them
latch_with : (line : ℕ) (words rest : List Word) (d q : Word) (type_ control init : Option Word) → words ≡ d ∷ q ∷ rest → type_ ≡ (written_of rest).type_
    → control ≡ (written_of rest).control → init ≡ (written_of rest).init → latch line d q (edge_of type_) (control_of control) (init_of init) ≡ latch_of line words
latch_with line words rest d q type_ control init parts is_type is_control is_init = rw (parts, is_type, is_control, is_init) refl

pub returns-clause-item : goal.returns-clause-item
returns-clause-item c =
    let words = c.args.words.now in
    let written = c.written_of-written.ensures in
    let parts = parted words c.d-item.result c.q-item.result c.in-len2-up.len_at_least c.d-item.is c.q-item.is in
    c.in_ok-latch_item.ensures ∙ latch_with c.args.line words (take (length words - 2) (drop 2 words)) c.d-item.result c.q-item.result _ _ _ parts written.type_ written.control written.init

-- what is found of the type and of the initial value
has_type : (words rest : List Word) (d q : Word) (type_ : Option Word) (found : Bool) → words ≡ d ∷ q ∷ rest → type_ ≡ (written_of rest).type_ → found ≡ is_type type_
    → has_bad_type words ≡ not found
has_type words rest d q type_ found parts same is = rw (parts, is, same) refl

has_init : (words rest : List Word) (d q : Word) (init : Option Word) (found : Bool) → words ≡ d ∷ q ∷ rest → init ≡ (written_of rest).init → found ≡ is_init init
    → has_bad_init words ≡ not found
has_init words rest d q init found parts same is = rw (parts, is, same) refl

pub written_of-written-requires : goal.written_of-written-requires
written_of-written-requires c =
    let words = c.args.words.now in
    let few = c.requires.few in
    simp (length-take, length-drop) (omega arith)

pub returns-in_default-clause-fault : goal.returns-in_default-clause-fault
returns-in_default-clause-fault c = omega arith

pub returns-then-not-is_type-clause-fault : goal.returns-then-not-is_type-clause-fault
returns-then-not-is_type-clause-fault c =
    let words = c.args.words.now in
    let parts = parted words c.d-item.result c.q-item.result c.in-len2-up.len_at_least c.d-item.is c.q-item.is in
    (refl, has_type words _ _ _ _ c.is_type.result parts c.written_of-written.ensures.type_ c.is_type.ensures ∙ ap not c.if-not-is_type.true)

pub returns-then-not-is_init-clause-fault : goal.returns-then-not-is_init-clause-fault
returns-then-not-is_init-clause-fault c =
    let words = c.args.words.now in
    let parts = parted words c.d-item.result c.q-item.result c.in-len2-up.len_at_least c.d-item.is c.q-item.is in (
      refl,
      has_type words _ _ _ _ c.is_type.result parts c.written_of-written.ensures.type_ c.is_type.ensures ∙ ap not c.if-not-is_type.false,
      has_init words _ _ _ _ c.is_init.result parts c.written_of-written.ensures.init c.is_init.ensures ∙ ap not c.if-not-is_init.true,
    )

pub returns-clause-fine : goal.returns-clause-fine
returns-clause-fine c =
    let words = c.args.words.now in
    let parts = parted words c.d-item.result c.q-item.result c.in-len2-up.len_at_least c.d-item.is c.q-item.is in (
      has_type words _ _ _ _ c.is_type.result parts c.written_of-written.ensures.type_ c.is_type.ensures ∙ ap not c.if-not-is_type.false,
      has_init words _ _ _ _ c.is_init.result parts c.written_of-written.ensures.init c.is_init.ensures ∙ ap not c.if-not-is_init.false,
    )
