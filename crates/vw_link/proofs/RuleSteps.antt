-- Each step of a link's queue keeps its rule.
use Rattle.std.proofs.Common.{◌≡◌, ◌≢◌, ◌≤◌, ◌+◌, ℕ, zero, suc, true, false, true≢false, List, [], ◌∷◌, ◌++◌, length, take, drop, set, slice_get, Some, sym, refl, ap, ◌∙◌, subst, ⊎_elim, arith}
use mathlib.Core.Option.{some, some-ne-none}
use lib.ListN.{get_elem?}
use Rattle.crossbeam_queue.specs.Fifo.{Forks, Learns, Pops, Pushes}
use Rattle.crossbeam_queue.proofs.Lists.{at_set, at_snoc}
use Rattle.vw_prog.specs.declared.word.Word.{Word}
use Rattle.vw_link.specs.declared.rule.View.{View}
use Rattle.vw_link.specs.Rule.{Carries, Fits, sending, taking, whole}
use Rattle.vw_link.proofs.WordParts.{part_begins, part_length, part_longer, part_none}

at_end : (passes : List View) (a b : View) (number : ℕ) → get_elem? passes number ≢ some b → get_elem? (passes ++ a ∷ []) number ≡ some b → number ≡ length passes
at_end [] a b zero n e = refl
at_end [] a b (suc number) n e = absurd (some-ne-none b (sym e))
at_end (x ∷ xs) a b zero n e = absurd (n e)
at_end (x ∷ xs) a b (suc number) n e = ap suc (at_end xs a b number n e)

abbrev All : (ℕ → View → Type 0) → List View → Type 0
All F passes = (number : ℕ) (pass : View) → get_elem? passes number ≡ some pass → F number pass

all_set : (F : ℕ → View → Type 0) (passes : List View) (number : ℕ) (new : View) → F number new → ((other : ℕ) (pass : View) → other ≢ number → get_elem? passes other ≡ some pass → F other pass) → All F (set passes number new)
all_set F passes number new mine others other pass e =
    ⊎_elim (λ (x : (other ≡ number) × (new ≡ pass)). subst (λ (y : ℕ × View). F y.0 y.1) (λ i. (sym x.0 i, x.1 i)) mine)
    (λ (x : (other ≢ number) × (get_elem? passes other ≡ some pass)). others other pass x.0 x.1)
    (at_set passes number other new pass e)

never : {P : Type 0} → false ≡ true → P
never no_way = absurd (true≢false (sym no_way))

-- the queue is made
pub begins : Carries [] (whole ∷ [])
begins = record {
  writer = 0;
  reader = 0;
  words = [];
  sent = 0;
  taken = 0;
  ordered = omega arith;
  inside = omega arith;
  held = refl;
  fits = all_set (Fits 0 0 [] 0 0) (whole ∷ []) 0 whole (record { put = λ _. (refl, refl, refl); take = λ _. (refl, refl, refl) }) (λ other pass apart e. absurd (apart (at_end [] whole pass other (λ x. some-ne-none pass (sym x)) e)));
}

none_of : (words : List Word) (taken sent : ℕ) → [] ≡ words → drop taken (take sent words) ≡ []
none_of words taken sent is = subst (λ (all : List Word). drop taken (take sent all) ≡ []) is (part_none taken sent)

-- its pass is cut into those of the two ends, for a script
pub cuts : (number : ℕ) (words : List Word) → Forks Carries number whole (sending words 0) (taking words 0)
cuts number words items passes rule at =
    let mine : Fits rule.writer rule.reader rule.words rule.sent rule.taken number whole = rule.fits number whole at in
    let left : View = sending words 0 in
    let right : View = taking words 0 in
    let cut : List View = set passes number left in
    let none : items ≡ [] = rule.held ∙ none_of rule.words rule.taken rule.sent (mine.put refl).1 in
    let Old : ℕ → View → Type 0 = λ other pass. (pass.puts ≡ true → (other ≡ number) × (pass.words ≡ words) × (pass.sent ≡ 0)) × (pass.takes ≢ true) in
    let old : All Old cut = all_set Old passes number left ((λ _. (refl, refl, refl)), λ takes. never takes) (λ other pass apart e. ((λ puts. absurd (apart (((rule.fits other pass e).put puts).0 ∙ sym (mine.put refl).0))), λ takes. apart (((rule.fits other pass e).take takes).0 ∙ sym (mine.take refl).0))) in
    record {
      writer = number;
      reader = length cut;
      words = words;
      sent = 0;
      taken = 0;
      ordered = omega arith;
      inside = omega arith;
      held = none;
      fits = λ other pass e. ⊎_elim (λ there. record { put = (old other pass there).0; take = λ takes. absurd ((old other pass there).1 takes) })
          (λ (is : right ≡ pass). record { put = λ puts. never (ap (λ (y : View). y.puts) is ∙ puts); take = λ takes. (at_end cut right pass other (λ there. (old other pass there).1 takes) e, ap (λ (y : View). y.words) (sym is), ap (λ (y : View). y.taken) (sym is)) })
          (at_snoc cut right pass other e);
    }

-- a word is put in behind the others
pub puts : (room number : ℕ) (pass : View) (word : Word) → pass.puts ≡ true → slice_get pass.words pass.sent ≡ Some word → Pushes Carries room number pass word (λ after. after ≡ record pass { sent = pass.sent + 1 })
puts room number pass word may next items passes free rule at =
    let after : View = record pass { sent = pass.sent + 1 } in
    let mine : Fits rule.writer rule.reader rule.words rule.sent rule.taken number pass = rule.fits number pass at in
    let here : slice_get rule.words rule.sent ≡ Some word = (λ i. slice_get (sym (mine.put may).1 i) (sym (mine.put may).2 i)) ∙ next in
    let longer = part_longer rule.words rule.taken rule.sent word rule.ordered here in
    let kept : Carries (items ++ word ∷ []) (set passes number after) = record {
      writer = rule.writer;
      reader = rule.reader;
      words = rule.words;
      sent = rule.sent + 1;
      taken = rule.taken;
      ordered = (let ordered = rule.ordered in omega (arith, ordered));
      inside = longer.0;
      held = ap (λ (all : List Word). all ++ word ∷ []) rule.held ∙ longer.1;
      fits = all_set (Fits rule.writer rule.reader rule.words (rule.sent + 1) rule.taken) passes number after
          (record { put = λ _. ((mine.put may).0, (mine.put may).1, ap (λ (k : ℕ). k + 1) (mine.put may).2); take = mine.take })
          (λ other pass apart e. record { put = λ puts. absurd (apart (((rule.fits other pass e).put puts).0 ∙ sym (mine.put may).0)); take = (rule.fits other pass e).take });
    } in
    (after, kept, refl)

-- a put is refused: the link holds no more words than were sent
pub full : (number : ℕ) (pass : View) → pass.puts ≡ true → Learns Carries number pass (λ items. length items ≤ pass.sent)
full number pass may items passes rule at =
    let mine : Fits rule.writer rule.reader rule.words rule.sent rule.taken number pass = rule.fits number pass at in
    let many : length items ≤ rule.sent = subst (λ (all : List Word). length all ≤ rule.sent) (sym rule.held) (part_length rule.words rule.taken rule.sent) in
    subst (λ (sent : ℕ). length items ≤ sent) (sym (mine.put may).2) many

-- the first word is taken out
pub takes : (number : ℕ) (pass : View) → pass.takes ≡ true → Pops Carries number pass (λ word after. (slice_get pass.words pass.taken ≡ Some word) × (after ≡ record pass { taken = pass.taken + 1 }))
takes number pass may word items passes rule at =
    let after : View = record pass { taken = pass.taken + 1 } in
    let mine : Fits rule.writer rule.reader rule.words rule.sent rule.taken number pass = rule.fits number pass at in
    let first = part_begins rule.words rule.taken rule.sent word items (sym rule.held) in
    let kept : Carries items (set passes number after) = record {
      writer = rule.writer;
      reader = rule.reader;
      words = rule.words;
      sent = rule.sent;
      taken = rule.taken + 1;
      ordered = first.0;
      inside = rule.inside;
      held = sym first.2;
      fits = all_set (Fits rule.writer rule.reader rule.words rule.sent (rule.taken + 1)) passes number after
          (record { put = mine.put; take = λ _. ((mine.take may).0, (mine.take may).1, ap (λ (k : ℕ). k + 1) (mine.take may).2) })
          (λ other pass apart e. record { put = (rule.fits other pass e).put; take = λ takes. absurd (apart (((rule.fits other pass e).take takes).0 ∙ sym (mine.take may).0)) });
    } in
    (after, kept, ((λ i. slice_get ((mine.take may).1 i) ((mine.take may).2 i)) ∙ first.1, refl))
