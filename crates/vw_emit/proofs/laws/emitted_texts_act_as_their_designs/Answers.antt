use Rattle.vw_emit.proofs.laws.emitted_texts_act_as_their_designs.Goals as goal

pub returns-clause-accepted : goal.returns-clause-accepted
returns-clause-accepted c = λ planned board sound fits reads.
    let spelled = c.emitted_texts_spell_boards.ensures in
    c.emitted_boards_are_accepted.ensures.accepted planned board sound (spelled.boards planned board sound fits reads) (spelled.small planned board sound fits reads)

pub returns-clause-loop_free : goal.returns-clause-loop_free
returns-clause-loop_free c = λ planned board sound fits reads.
    let spelled = c.emitted_texts_spell_boards.ensures in
    c.emitted_boards_are_accepted.ensures.loop_free planned board sound (spelled.boards planned board sound fits reads) (spelled.small planned board sound fits reads)

pub returns-clause-columns : goal.returns-clause-columns
returns-clause-columns c = λ planned board sound fits reads.
    let spelled = c.emitted_texts_spell_boards.ensures in
    c.emitted_boards_act_as_their_designs.ensures.columns planned board sound (spelled.boards planned board sound fits reads) (spelled.small planned board sound fits reads)

pub returns-clause-acts : goal.returns-clause-acts
returns-clause-acts c = λ planned board sound fits reads unknown rows.
    let spelled = c.emitted_texts_spell_boards.ensures in
    c.emitted_boards_act_as_their_designs.ensures.acts planned board sound (spelled.boards planned board sound fits reads) (spelled.small planned board sound fits reads) unknown rows
