-- The ends of a node after a call of one of them.
use Rattle.std.proofs.Common.{◌≡◌, ◌<◌, ◌+◌, ℕ, Bool, true, false, List, length, get_or, set, slice_get, ap, ap₂, inl, inr, refl, subst, sym, ◌∙◌, ⊎_elim, ◌≤◌, Option, Some, None, true≢false, arith}
use Rattle.std.specs.Prelude.{option_map, unwrap_or}
use Rattle.std.proofs.lemmas.List.{get_or-map, length-map, length-set, map-set}
use Rattle.std.proofs.lemmas.Option.{none-some}
use Rattle.vw_prog.specs.declared.job.Job.{Job}
use Rattle.vw_prog.specs.declared.word.Word.{Word}
use Rattle.vw_prog.specs.Ends.{Puts, Takes, counted_at, one_more, refused}
use Rattle.vw_prog.specs.Fabric.{PutsOne, SeenPutEnd, SeenTakeEnd, TakesOne}
use Rattle.vw_prog.specs.Scripts.{script}
use Rattle.vw_crew.specs.Ends.{AreOwn, Has, IsPutOf, IsTakeOf, MayHave, SeenOwn, empty_of, ends_of, full_of, keeps_of, own_of, put_at, put_room, sent_of, take_at, taken_of}
use Rattle.vw_crew.proofs.Places.{place_within, set_changes, set_fine, set_stays}

module _ (own : SeenOwn) (are : AreOwn own) (link : ℕ) where
  abbrev words : ℕ → List Word
  words other = script own.job other

  abbrev links : ℕ
  links = length own.job.checked.board.links

  -- ---- an end comes or goes

  pub with_put : link < length own.puts → (new : Option SeenPutEnd) → IsPutOf own.job link new → AreOwn (record own { puts = set own.puts link new })
  with_put within new fine = record {
    puts_long = length-set own.puts link new ∙ are.puts_long;
    takes_long = are.takes_long;
    puts = set_fine own.puts link within new (λ other end. (end.link ≡ other) × (end.words ≡ words other)) fine are.puts;
    takes = are.takes;
  }

  pub with_take : link < length own.takes → (new : Option SeenTakeEnd) → IsTakeOf own.job link new → AreOwn (record own { takes = set own.takes link new })
  with_take within new fine = record {
    puts_long = are.puts_long;
    takes_long = length-set own.takes link new ∙ are.takes_long;
    puts = are.puts;
    takes = set_fine own.takes link within new (λ other end. (end.link ≡ other) × (end.words ≡ words other)) fine are.takes;
  }

  -- ---- a put

  module _ (end : SeenPutEnd) (there : put_at own link ≡ Some end) where
    put_within : link < length own.puts
    put_within = place_within own.puts link end there

    abbrev then_puts : SeenPutEnd → SeenOwn
    then_puts after = record own { puts = set own.puts link (Some after) }

    put_fine : (after : SeenPutEnd) → after.link ≡ end.link → after.words ≡ end.words → AreOwn (then_puts after)
    put_fine after same script_same = with_put put_within (Some after) (λ one is.
        let its : after ≡ one = ap (λ (place : Option _). unwrap_or place after) is in
        let old = are.puts link end there in
        (sym (ap (λ (any : SeenPutEnd). any.link) its) ∙ same ∙ old.0, sym (ap (λ (any : SeenPutEnd). any.words) its) ∙ script_same ∙ old.1))

    pub put_done : (answer : Bool) (after : SeenPutEnd) → PutsOne end after answer → AreOwn (then_puts after) × Puts link (ends_of own) (ends_of (then_puts after)) answer
    put_done true after puts = (
      put_fine after (ap (λ (any : SeenPutEnd). any.link) puts.ends) (ap (λ (any : SeenPutEnd). any.words) puts.ends),
      record { ends = all; refused = inl refl; room = λ told. absurd (true≢false (sym told)) },
    ) where
      sent : (ends_of (then_puts after)).sent ≡ counted_at link (ends_of own).sent
      sent = set_changes own.puts link put_within (Some after) (λ other place. sent_of (words other) place) (λ count. count + 1) (ap (λ (any : SeenPutEnd). any.sent) puts.ends ∙ ap (λ (place : Option SeenPutEnd). sent_of (words link) place + 1) (sym there))

      full : (ends_of (then_puts after)).full ≡ (ends_of own).full
      full = set_stays own.puts link put_within (Some after) (λ other place. full_of place) (ap (λ (any : SeenPutEnd). any.full) puts.ends ∙ ap full_of (sym there))

      room : (ends_of (then_puts after)).room ≡ (ends_of own).room
      room = set_stays own.puts link put_within (Some after) (λ other place. put_room place) (ap (λ (any : SeenPutEnd). any.room) puts.ends ∙ ap put_room (sym there))

      all : ends_of (then_puts after) ≡ record (ends_of own) { sent = counted_at link (ends_of own).sent }
      all = λ i. record (ends_of own) { sent = sent i; full = full i; room = room i }
    put_done false after puts = (
      put_fine after (ap (λ (any : SeenPutEnd). any.link) puts.ends) (ap (λ (any : SeenPutEnd). any.words) puts.ends),
      record { ends = all; refused = ⊎_elim inl (λ full. inr (is_full full)) puts.refused; room = λ told. absurd (true≢false (sym told)) },
    ) where
      is_full : end.room ≤ end.sent → (ends_of own).room link ≤ (ends_of own).sent link
      is_full full = subst (λ (place : Option SeenPutEnd). put_room place ≤ sent_of (words link) place) (sym there) full

      sent : (ends_of (then_puts after)).sent ≡ (ends_of own).sent
      sent = set_stays own.puts link put_within (Some after) (λ other place. sent_of (words other) place) (ap (λ (any : SeenPutEnd). any.sent) puts.ends ∙ ap (sent_of (words link)) (sym there))

      full : (ends_of (then_puts after)).full ≡ refused link (ends_of own).full
      full = set_changes own.puts link put_within (Some after) (λ other place. full_of place) one_more (ap (λ (any : SeenPutEnd). any.full) puts.ends ∙ ap (λ (place : Option SeenPutEnd). one_more (full_of place)) (sym there))

      room : (ends_of (then_puts after)).room ≡ (ends_of own).room
      room = set_stays own.puts link put_within (Some after) (λ other place. put_room place) (ap (λ (any : SeenPutEnd). any.room) puts.ends ∙ ap put_room (sym there))

      all : ends_of (then_puts after) ≡ record (ends_of own) { full = refused link (ends_of own).full }
      all = λ i. record (ends_of own) { sent = sent i; full = full i; room = room i }

  -- ---- a take

  module _ (end : SeenTakeEnd) (there : take_at own link ≡ Some end) where
    take_within : link < length own.takes
    take_within = place_within own.takes link end there

    abbrev then_takes : SeenTakeEnd → SeenOwn
    then_takes after = record own { takes = set own.takes link (Some after) }

    take_fine : (after : SeenTakeEnd) → after.link ≡ end.link → after.words ≡ end.words → AreOwn (then_takes after)
    take_fine after same script_same = with_take take_within (Some after) (λ one is.
        let its : after ≡ one = ap (λ (place : Option _). unwrap_or place after) is in
        let old = are.takes link end there in
        (sym (ap (λ (any : SeenTakeEnd). any.link) its) ∙ same ∙ old.0, sym (ap (λ (any : SeenTakeEnd). any.words) its) ∙ script_same ∙ old.1))

    pub take_done : (answer : Option Word) (after : SeenTakeEnd) → TakesOne end after answer → AreOwn (then_takes after) × Takes link (ends_of own) (ends_of (then_takes after)) answer
    take_done (Some word) after (is, next) = (
      take_fine after (ap (λ (any : SeenTakeEnd). any.link) is) (ap (λ (any : SeenTakeEnd). any.words) is),
      (all, its, λ told. absurd (true≢false (sym told))),
    ) where
      taken : (ends_of (then_takes after)).taken ≡ counted_at link (ends_of own).taken
      taken = set_changes own.takes link take_within (Some after) (λ other place. taken_of (words other) place) (λ count. count + 1) (ap (λ (any : SeenTakeEnd). any.taken) is ∙ ap (λ (place : Option SeenTakeEnd). taken_of (words link) place + 1) (sym there))

      empty : (ends_of (then_takes after)).empty ≡ (ends_of own).empty
      empty = set_stays own.takes link take_within (Some after) (λ other place. empty_of place) (ap (λ (any : SeenTakeEnd). any.empty) is ∙ ap empty_of (sym there))

      keeps : (ends_of (then_takes after)).keeps ≡ (ends_of own).keeps
      keeps = set_stays own.takes link take_within (Some after) (λ other place. keeps_of place) (ap (λ (any : SeenTakeEnd). any.keeps) is ∙ ap keeps_of (sym there))

      all : ends_of (then_takes after) ≡ record (ends_of own) { taken = counted_at link (ends_of own).taken }
      all = λ i. record (ends_of own) { taken = taken i; empty = empty i; keeps = keeps i }

      its : slice_get (words link) (taken_of (words link) (take_at own link)) ≡ Some word
      its = ap (λ (place : Option SeenTakeEnd). slice_get (words link) (taken_of (words link) place)) there ∙ ap (λ (list : List Word). slice_get list end.taken) (sym (are.takes link end there).1) ∙ next
    take_done None after is = (
      take_fine after (ap (λ (any : SeenTakeEnd). any.link) is) (ap (λ (any : SeenTakeEnd). any.words) is),
      (all, λ told. absurd (true≢false (sym told))),
    ) where
      taken : (ends_of (then_takes after)).taken ≡ (ends_of own).taken
      taken = set_stays own.takes link take_within (Some after) (λ other place. taken_of (words other) place) (ap (λ (any : SeenTakeEnd). any.taken) is ∙ ap (taken_of (words link)) (sym there))

      empty : (ends_of (then_takes after)).empty ≡ refused link (ends_of own).empty
      empty = set_changes own.takes link take_within (Some after) (λ other place. empty_of place) one_more (ap (λ (any : SeenTakeEnd). any.empty) is ∙ ap (λ (place : Option SeenTakeEnd). one_more (empty_of place)) (sym there))

      keeps : (ends_of (then_takes after)).keeps ≡ (ends_of own).keeps
      keeps = set_stays own.takes link take_within (Some after) (λ other place. keeps_of place) (ap (λ (any : SeenTakeEnd). any.keeps) is ∙ ap keeps_of (sym there))

      all : ends_of (then_takes after) ≡ record (ends_of own) { empty = refused link (ends_of own).empty }
      all = λ i. record (ends_of own) { taken = taken i; empty = empty i; keeps = keeps i }

-- the ends as code has them
module _ {T U : Type 0} (put : T → SeenPutEnd) (take : U → SeenTakeEnd) (job : Job) (node : ℕ) (puts : List (Option T)) (takes : List (Option U)) (link : ℕ) (own : SeenOwn) (view_is : own_of put take job node puts takes ≡ own) (are : AreOwn (own_of put take job node puts takes)) (inside : link < length own.job.checked.board.links) where
  abbrev before : SeenOwn
  before = own_of put take job node puts takes

  links_are : length own.job.checked.board.links ≡ length before.job.checked.board.links
  links_are = ap (λ (one : SeenOwn). length one.job.checked.board.links) (sym view_is)

  -- other ends of a link are written
  module _ (new given : Option T) (new_is : new ≡ given) (other passed : Option U) (other_is : other ≡ passed) where
    abbrev after : SeenOwn
    after = own_of put take job node (set puts link new) (set takes link other)

    pub change_done : MayHave own link (option_map put given) (option_map take passed) → AreOwn after × (after ≡ record own { puts = set own.puts link (option_map put given); takes = set own.takes link (option_map take passed) })
    change_done may =
        let put_fits = subst (λ (one : SeenOwn). IsPutOf one.job link (option_map put new)) (sym view_is) (subst (λ (place : Option T). IsPutOf own.job link (option_map put place)) (sym new_is) may.put_fits) in
        let take_fits = subst (λ (one : SeenOwn). IsTakeOf one.job link (option_map take other)) (sym view_is) (subst (λ (place : Option U). IsTakeOf own.job link (option_map take place)) (sym other_is) may.take_fits) in
        let with_new = with_put before are link (omega (arith, inside, links_are, are.puts_long)) (option_map put new) put_fits in
        let with_both = with_take (record before { puts = set before.puts link (option_map put new) }) with_new link (omega (arith, inside, links_are, are.takes_long)) (option_map take other) take_fits in
        let written : after ≡ record before { puts = set before.puts link (option_map put new); takes = set before.takes link (option_map take other) } =
        ap₂ (λ (some : List (Option SeenPutEnd)) (others : List (Option SeenTakeEnd)). record before { puts = some; takes = others }) (map-set (option_map put) puts link new) (map-set (option_map take) takes link other) in (
          subst AreOwn (sym written) with_both,
          written
              ∙ ap (λ (one : SeenOwn). record one { puts = set one.puts link (option_map put new); takes = set one.takes link (option_map take other) }) view_is
              ∙ ap₂ (λ (place : Option T) (far : Option U). record own { puts = set own.puts link (option_map put place); takes = set own.takes link (option_map take far) }) new_is other_is,
        )

  -- one of them is found, and called
  module _ (any found : Option T) (found_is : found ≡ get_or puts link any) where
    put_found : put_at before link ≡ option_map put found
    put_found = get_or-map (option_map put) puts link any None (omega (arith, inside, links_are, are.puts_long, length-map puts (option_map put))) ∙ ap (option_map put) (sym found_is)

    pub put_called : (end new : T) (answer : Bool) → found ≡ Some end → PutsOne (put end) (put new) answer
        → AreOwn (own_of put take job node (set puts link (Some new)) takes) × Puts link (ends_of own) (ends_of (own_of put take job node (set puts link (Some new)) takes)) answer
    put_called end new answer is puts_one =
        subst (λ (list : List (Option SeenPutEnd)). AreOwn (record before { puts = list }) × Puts link (ends_of own) (ends_of (record before { puts = list })) answer) (sym (map-set (option_map put) puts link (Some new)))
        (subst (λ (one : SeenOwn). AreOwn (record before { puts = set before.puts link (Some (put new)) }) × Puts link (ends_of one) (ends_of (record before { puts = set before.puts link (Some (put new)) })) answer) view_is (put_done before are link (put end) (put_found ∙ ap (option_map put) is) answer (put new) puts_one))

  module _ (any found : Option U) (found_is : found ≡ get_or takes link any) where
    take_found : take_at before link ≡ option_map take found
    take_found = get_or-map (option_map take) takes link any None (omega (arith, inside, links_are, are.takes_long, length-map takes (option_map take))) ∙ ap (option_map take) (sym found_is)

    pub take_called : (end new : U) (answer : Option Word) → found ≡ Some end → TakesOne (take end) (take new) answer
        → AreOwn (own_of put take job node puts (set takes link (Some new))) × Takes link (ends_of own) (ends_of (own_of put take job node puts (set takes link (Some new)))) answer
    take_called end new answer is takes_one =
        subst (λ (list : List (Option SeenTakeEnd)). AreOwn (record before { takes = list }) × Takes link (ends_of own) (ends_of (record before { takes = list })) answer) (sym (map-set (option_map take) takes link (Some new)))
        (subst (λ (one : SeenOwn). AreOwn (record before { takes = set before.takes link (Some (take new)) }) × Takes link (ends_of one) (ends_of (record before { takes = set before.takes link (Some (take new)) })) answer) view_is (take_done before are link (take end) (take_found ∙ ap (option_map take) is) answer (take new) takes_one))

  -- both are given up
  pub had : (any found : Option T) → found ≡ get_or puts link any → (other one : Option U) → one ≡ get_or takes link other → Has own link (option_map put found) (option_map take one)
  had any found found_is other one one_is = subst (λ (seen : SeenOwn). Has seen link (option_map put found) (option_map take one)) view_is (record {
    put_is = put_found any found found_is;
    put_fits = λ end is. are.puts link end (put_found any found found_is ∙ is);
    take_is = take_found other one one_is;
    take_fits = λ end is. are.takes link end (take_found other one one_is ∙ is);
  })

-- no ends yet
pub no_own : (job : Job) (node : ℕ) (puts : List (Option SeenPutEnd)) (takes : List (Option SeenTakeEnd)) → length puts ≡ length job.checked.board.links → length takes ≡ length job.checked.board.links
    → ((link : ℕ) → get_or puts link None ≡ None) → ((link : ℕ) → get_or takes link None ≡ None) → AreOwn (record { job = job; node = node; puts = puts; takes = takes })
no_own job node puts takes puts_long takes_long no_puts no_takes = record {
  puts_long = puts_long;
  takes_long = takes_long;
  puts = λ link end is. absurd (none-some end (sym (no_puts link) ∙ is));
  takes = λ link end is. absurd (none-some end (sym (no_takes link) ∙ is));
}
