use Rattle.std.proofs.Common.{[]}
use Rattle.vw_emit_text.specs.Emitted.{emitted_text}
use Rattle.vw_front.specs.Designs.{design_apart, spells_once}
use Rattle.vw_emit.proofs.laws.emitted_texts_spell_designs.Goals as goal

board_is : goal.returns-clause-board
board_is c = λ planned sound fits.
    let some = c.emitted_texts_spell_boards.ensures.some planned sound fits in
    let its = c.emitted_texts_act_as_their_designs.ensures in
    record {
      board = some.0;
      is = record {
        spelled = some.1;
        accepted = its.accepted planned some.0 sound fits some.1;
        loop_free = its.loop_free planned some.0 sound fits some.1;
      };
      as_wide = its.columns planned some.0 sound fits some.1;
      acts = its.acts planned some.0 sound fits some.1;
    }

its_design : goal.returns-clause-runs
its_design c = λ planned sound fits.
    let is = board_is c planned sound fits in
    (record { design = is.board; nets = [] }, record { design_of = is.is; found = tt })

pub returns-clause-board : goal.returns-clause-board
returns-clause-board c = board_is c

pub returns-clause-runs : goal.returns-clause-runs
returns-clause-runs c = its_design c

pub returns-clause-unrefused : goal.returns-clause-unrefused
returns-clause-unrefused c = λ planned sound fits none.
    let runs = its_design c planned sound fits in
    design_apart [] (emitted_text planned) runs.0 none.0 runs.1 none.1

pub returns-clause-only : goal.returns-clause-only
returns-clause-only c = λ planned text is other spelled. spells_once text other is.board spelled is.is.spelled
