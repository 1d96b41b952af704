-- From what a run that is done has written and carried to what its links have carried.
use Rattle.std.proofs.Common.{◌≡◌, ℕ, Bool, List, Option, ◌∙◌, ap}
use Rattle.vw_design.specs.Paths.{Word as ProbeWord}
use Rattle.vw_front.specs.Designs.{WatchedDesign}
use Rattle.vw_net.specs.declared.ordered.Ordered.{Ordered}
use Rattle.vw_course.specs.Outside.{SeenOutside, carried}
use Rattle.vw_course.specs.Statuses.{IsDone}
use Rattle.vw_plan.specs.declared.board.Board.{Board}
use Rattle.vw_plan.specs.declared.plan.Plan.{Plan}
use Rattle.vw_plan.specs.PlannedBoard.{planned_board}
use Rattle.vw_prog.specs.declared.word.Word.{Word}
use Rattle.vw_courses.specs.Messages.{vocabulary, Call, CallWork}
use Rattle.vw_courses.specs.Commands.{TextOver, Scripts, board_scripts}
use Rattle.vw_statuses.specs.TracedStatuses.{designs, IsTrace}
use Rattle.vw_statuses.specs.LinkTraffic.{UsesBoard, CarriesAll}

module _ (probes : List ProbeWord) (text : TextOver WatchedDesign) (design : List ℕ) (call : Call) (until : Bool) (workers : ℕ) (unknown : Bool) (d s : List ℕ) (May Is : Ordered → Board → Plan → Type 0)
    (also : (ordered : Ordered) (board : Board) (plan : Plan) → May ordered board plan → Is ordered board plan) where
  pub carries_all : IsDone (IsTrace (designs probes design) text d s (UsesBoard until workers unknown May)) call → CarriesAll probes until workers unknown d s Is call
  carries_all done =
      let trace = done.is in
      let uses = trace.uses in
      let words : done.did.scripts ≡ board_scripts until workers unknown (planned_board uses.ordered uses.board uses.plan) trace.rows =
      ap (λ (w : CallWork). w.scripts) trace.is ∙ ap (λ (scripts : Scripts). scripts trace.rows) uses.are in
      record {
        spelled = trace.its;
        rows = trace.rows;
        design_is = trace.are.spells;
        rows_are = trace.are.rows_are;
        ordered = uses.ordered;
        board = uses.board;
        plan = uses.plan;
        is = also uses.ordered uses.board uses.plan uses.is;
        links = ap (λ (o : SeenOutside vocabulary.Word). o.links) done.leaves
            ∙ ap (λ (scripts : Option (ℕ → List Word)). carried scripts call.before.links) words;
      }
