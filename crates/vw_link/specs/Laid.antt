-- A link that was laid. Source: this project.
use Rattle.std.specs.Prelude.{◌≡◌, ◌*◌, ℕ, slice_get, Option, Some}
use Rattle.crossbeam_queue.specs.declared.array_queue.Doing.{Doing}
use Rattle.crossbeam_queue.specs.declared.array_queue.Slotted.{Slotted}
use Rattle.crossbeam_queue.specs.Passes.{IsPassOf, Pass, ruled_capacity, view}
use Rattle.vw_plan.specs.declared.link.Link.{Link}
use Rattle.vw_prog.specs.declared.job.Job.{Job}
use Rattle.vw_prog.specs.declared.word.Word.{Word}
use Rattle.vw_prog.specs.Scripts.{script}
use Rattle.vw_link.specs.declared.rule.View.{View}
use Rattle.vw_link.specs.Rule.{sending, taking}

module _ {Q A : Type 0} where
  -- a queue with the passes of its two ends, both at the beginning of the script of a job and a link
  pub record IsLaidLine (job : Job) (link : ℕ) (line : Slotted (Option Word) (Doing Word View) Q A) (sender receiver : Pass Word View) : Type 0 where
    pub room : (there : Link) → slice_get job.checked.board.links link ≡ Some there → ruled_capacity line ≡ 64 * there.width
    pub sender_of : IsPassOf line sender
    pub receiver_of : IsPassOf line receiver
    pub sends : view sender ≡ sending (script job link) 0
    pub takes : view receiver ≡ taking (script job link) 0
