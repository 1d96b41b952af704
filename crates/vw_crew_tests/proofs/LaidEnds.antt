-- The ends of a laid link, also after puts and takes, are ends of that link.
use Rattle.std.proofs.Common.{◌≡◌, ◌<◌, ◌*◌, ◌∙◌, ℕ, Bool, length, get_or, ap, sym}
use Rattle.std.proofs.lemmas.Option.{slice_get-get_or}
use Rattle.vw_plan.specs.declared.link.Link.{Link}
use Rattle.vw_prog.specs.declared.job.Job.{Job}
use Rattle.vw_prog.specs.Fabric.{AreEndsOf, IsLaid, SeenPutEnd, SeenTakeEnd}
use Rattle.vw_prog.specs.Scripts.{script}
use Rattle.vw_crew_tests.specs.Rounds.{HasPut, HasTaken}

module _ (job : Job) (link : ℕ) (told : Bool) (tx : SeenPutEnd) (rx : SeenTakeEnd) (below : link < length job.checked.board.links) (laid : IsLaid job link told tx rx) where
  abbrev there : Link
  there = get_or job.checked.board.links link (record { from = 0; to = 0; width = 0; delay = 0 })

  abbrev put_end : tx ≡ record { link = link; words = script job link; sent = 0; full = tx.full; room = 64 * there.width }
  put_end = laid.put_end there (slice_get-get_or job.checked.board.links link (record { from = 0; to = 0; width = 0; delay = 0 }) below)

  pub put_words : tx.words ≡ script job link
  put_words = ap (λ (end : SeenPutEnd). end.words) put_end

  pub put_none : tx.sent ≡ 0
  put_none = ap (λ (end : SeenPutEnd). end.sent) put_end

  pub take_words : rx.words ≡ script job link
  take_words = ap (λ (end : SeenTakeEnd). end.words) laid.take_end

  pub taken_none : rx.taken ≡ 0
  taken_none = ap (λ (end : SeenTakeEnd). end.taken) laid.take_end

  pub ends_are : (after : Bool) → after ≡ told → (put : SeenPutEnd) (taken : SeenTakeEnd) (sent took : ℕ) → HasPut tx put sent → HasTaken rx taken took → AreEndsOf link after put taken
  ends_are after same put taken sent took puts takes = record {
    put_link = ap (λ (end : SeenPutEnd). end.link) puts ∙ ap (λ (end : SeenPutEnd). end.link) put_end;
    take_link = ap (λ (end : SeenTakeEnd). end.link) takes ∙ ap (λ (end : SeenTakeEnd). end.link) laid.take_end;
    one_script = ap (λ (end : SeenPutEnd). end.words) puts ∙ put_words ∙ sym take_words ∙ sym (ap (λ (end : SeenTakeEnd). end.words) takes);
    kept = λ is. ap (λ (end : SeenTakeEnd). end.keeps) takes ∙ ap (λ (end : SeenTakeEnd). end.keeps) laid.take_end ∙ sym same ∙ is;
  }
