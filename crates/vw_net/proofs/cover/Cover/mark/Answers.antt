use Rattle.std.proofs.Common.{◌≡◌, ◌<◌, ◌==◌, ℕ, List, Some, length, ap, ap₂, sym, ◌∙◌, arith}
use Rattle.std.specs.Int.{bit_at}
use Rattle.std.proofs.lemmas.List.{length-map}
use Rattle.std.proofs.lemmas.Nat.Bits.{bit_at-lt, shr_and_one}
use Rattle.vw_net.specs.declared.cover.Row.{Row}
use Rattle.vw_net.specs.Table.{Table}
use Rattle.vw_net.specs.Cover.{mark_at}
use Rattle.vw_net.specs.Steps.Masks.{mark_of, row_of}
use Rattle.vw_net.proofs.RowMasks.{mark_read}
use Rattle.vw_net.proofs.cover.Cover.mark.Goals.{After-index-masks}
use Rattle.vw_net.proofs.cover.Cover.mark.Goals as goal

-- what stands there, by the bits of the masks
read : (c : After-index-masks) → mark_at c.args.self.now c.args.row c.args.input ≡ Some (mark_of (bit_at c.index-masks.result.now.looked c.args.input == 1) (bit_at c.index-masks.result.now.wanted c.args.input == 1))
read c =
    let table = c.args.self.now in
    let list = c.self.inside.masks.items in
    let inputs : c.self.inside.inputs ≡ table.inputs = ap (λ (one : Table). one.inputs) c.self.view_is in
    let rows = ap (λ (one : Table). one.rows) c.self.view_is in
    let within : c.args.row < length list = omega (arith, c.requires.row, ap (λ (one : List Row). length one) rows, length-map list (row_of c.self.inside.inputs)) in
    mark_read table c.self.inside.inputs list c.args.row c.args.input c.index-masks.result.now rows within (omega (arith, inputs, c.requires.input)) c.index-masks.ensures

one_where_not_zero : (n at : ℕ) → (bit_at n at ≡ 0 → ⊥) → bit_at n at ≡ 1
one_where_not_zero n at some = let small = bit_at-lt n at in omega (arith, small, some)

pub returns-then-masks-input-eq0 : goal.returns-then-masks-input-eq0
returns-then-masks-input-eq0 c =
    let masks = c.index-masks.result.now in
    let none = sym (shr_and_one masks.looked c.args.input) ∙ c.if-masks-input-eq0.true in
    read ((goal.at.returns-then-masks-input-eq0 c).After-index-masks) ∙ ap (λ (bit : ℕ). Some (mark_of (bit == 1) (bit_at masks.wanted c.args.input == 1))) none

pub returns-then-masks-input-eq0-2 : goal.returns-then-masks-input-eq0-2
returns-then-masks-input-eq0-2 c =
    let masks = c.index-masks.result.now in
    let some = one_where_not_zero masks.looked c.args.input (λ none. c.if-masks-input-eq0.false (shr_and_one masks.looked c.args.input ∙ none)) in
    let none = sym (shr_and_one masks.wanted c.args.input) ∙ c.if-masks-input-eq0-2.true in
    read ((goal.at.returns-then-masks-input-eq0-2 c).After-index-masks) ∙ ap₂ (λ (looked wanted : ℕ). Some (mark_of (looked == 1) (wanted == 1))) some none

pub returns : goal.returns
returns c =
    let masks = c.index-masks.result.now in
    let some = one_where_not_zero masks.looked c.args.input (λ none. c.if-masks-input-eq0.false (shr_and_one masks.looked c.args.input ∙ none)) in
    let one = one_where_not_zero masks.wanted c.args.input (λ none. c.if-masks-input-eq0-2.false (shr_and_one masks.wanted c.args.input ∙ none)) in
    read ((goal.at.returns c).After-index-masks) ∙ ap₂ (λ (looked wanted : ℕ). Some (mark_of (looked == 1) (wanted == 1))) some one
