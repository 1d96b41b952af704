use Rattle.std.proofs.Common.{◌≤◌, length, ap, ◌∙◌, arith}
use Rattle.vw_net.specs.Table.{Table}
use Rattle.vw_net.specs.TruthTable.{bit_of, place_of}
use Rattle.vw_net.specs.Steps.MatchedPlaces.{truth_table_of}
use Rattle.vw_net.proofs.TruthTables.{place_of-below, truth_table_agrees, truth_table_is}
use Rattle.vw_net.proofs.cover.Cover.value_on.Goals as goal

-- a place is below 64
pub bit_of-requires : goal.bit_of-requires
bit_of-requires c =
    let few : length c.args.bits.now ≤ 6 = omega (arith, ap (λ (table : Table). table.inputs) c.self.view_is) in
    omega (arith, place_of-below c.args.bits.now few)

-- the truth table has the table's value there
pub returns-then-self-le-TRUTH_TABLE_INPUTS : goal.returns-then-self-le-TRUTH_TABLE_INPUTS
returns-then-self-le-TRUTH_TABLE_INPUTS c =
    let table = c.args.self.now in
    let number = c.self.inside.truth_table_is ∙ ap (λ (one : Table). truth_table_of one.inputs one.on one.rows) c.self.view_is ∙ truth_table_is table in
    c.bit_of.ensures ∙ ap (bit_of c.self.inside.truth_table) c.place_of.ensures ∙ ap (λ (n : _). bit_of n (place_of c.args.bits.now)) number
    ∙ truth_table_agrees table c.args.bits.now (omega (arith, ap (λ (one : Table). one.inputs) c.self.view_is)) c.requires
