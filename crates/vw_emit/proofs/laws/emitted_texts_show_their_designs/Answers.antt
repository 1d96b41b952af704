use Rattle.std.proofs.Common.{◌∙◌, ◌≡◌, [], Some, slice_get, subst, sym}
use Rattle.vw_net.specs.History.{History}
use Rattle.vw_emit.proofs.laws.emitted_texts_show_their_designs.Goals as goal

pub returns : goal.returns
returns c = λ planned design sound fits flat.
    let is = c.emitted_texts_spell_designs.ensures.board planned sound fits in
    record {
      board = is.board;
      is = is.is;
      as_wide = is.as_wide ∙ flat.inputs;
      shows = λ unknown rows.
          let agree = c.histories_agree.ensures design [] planned.ordered.flat flat unknown rows in
          let acts = is.acts unknown rows in
          record {
            at_last = λ clock outputs state shown stored.
                acts.at_last clock outputs state
                (subst (λ (history : History). slice_get history.outputs clock ≡ Some outputs) (sym agree) shown)
                (subst (λ (history : History). slice_get history.states clock ≡ Some state) (sym agree) stored);
          };
    }
