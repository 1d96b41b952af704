use Rattle.std.proofs.Common.{◌≡◌, ◌<◌, zero, List, [], ◌∷◌, length, drop, map, refl, ◌∙◌, ap, arith, length-drop}
use Rattle.std.proofs.lemmas.List.{drop_all}
use Rattle.vw_words.specs.declared.place.Place.{Place as HeldPlace}
use Rattle.vw_words.specs.Forms.{Setting}
use Rattle.vw_words.specs.Matched.{matched}
use Rattle.vw_words.specs.Views.{place_view, settings_view}
use Rattle.vw_words.proofs.form.Form.matched.Goals as goal

-- where a place is left and no word, nothing more is matched
no_word_left : (settings : List Setting) (rest : List HeldPlace) → 0 < length rest → matched (map place_view rest) settings [] ≡ zero
no_word_left settings [] some = absurd (omega arith)
no_word_left settings (place ∷ rest) some = refl

pub returns-in_default-clause-count : goal.returns-in_default-clause-count
returns-in_default-clause-count c =
    let at = c.loop-at.at in
    let places = c.args.self.now.places.now in
    let settings = settings_view c.args.self.now.settings.now in
    let words : drop at c.args.words.now ≡ [] = drop_all at c.args.words.now c.in_default.ensures.lookup.3 in
    let none : matched (map place_view (drop at places)) settings (drop at c.args.words.now) ≡ zero =
    ap (matched (map place_view (drop at places)) settings) words ∙ no_word_left settings (drop at places) (omega (arith, c.loop-at-test.true, length-drop at places)) in
    omega (arith, none, c.loop-at.invariant.rest)
