-- Lines that are cut, and put together again.
use Rattle.std.proofs.Common.{◌≡◌, Bool, true, false, not, ◌||◌, List, [], ◌∷◌, ◌++◌, refl, sym, ◌∙◌, ap, ap₂, append-nil}
use Rattle.std.specs.List.{list_any, list_all, flat_map}
use Rattle.std.proofs.lemmas.Bool.{and_parts, and_from, or_parts, not-true}
use Rattle.vw_text.specs.declared.line.Line.{Line}
use Rattle.vw_blif.specs.CutLists.{Part, CutList, with_element, cut_before}
use Rattle.vw_blif.specs.Cuts.{IsCut}

module _ (begins : Line → Bool) where
  -- one line more
  with_line : (line : Line) (lines : List Line) (cut : CutList Line) (test : Bool) → begins line ≡ test → IsCut begins lines cut → IsCut begins (line ∷ lines) (with_element test line cut)
  with_line line lines cut true is old = record {
    whole = ap (λ (ls : List Line). line ∷ ls) old.whole;
    before = refl;
    heads = and_from (begins line) (list_all (λ (part : Part Line). begins part.head) cut.parts) is old.heads;
    tails = and_from (not (list_any begins cut.before)) (list_all (λ (part : Part Line). not (list_any begins part.tail)) cut.parts) (ap not old.before) old.tails;
  }
  with_line line lines cut false is old = record {
    whole = ap (λ (ls : List Line). line ∷ ls) old.whole;
    before = ap₂ (λ (a b : Bool). a || b) is old.before;
    heads = old.heads;
    tails = old.tails;
  }

  pub is_cut : (lines : List Line) → IsCut begins lines (cut_before begins lines)
  is_cut [] = record { whole = refl; before = refl; heads = refl; tails = refl }
  is_cut (line ∷ lines) = with_line line lines (cut_before begins lines) (begins line) refl (is_cut lines)

  pub cut_front : (front rest : List Line) → list_any begins front ≡ false
      → cut_before begins (front ++ rest) ≡ record { before = front ++ (cut_before begins rest).before; parts = (cut_before begins rest).parts }
  cut_front [] rest none = refl
  cut_front (line ∷ front) rest none =
      let parts = or_parts (begins line) (list_any begins front) none in
      ap₂ (λ (test : Bool) (cut : CutList Line). with_element test line cut) parts.0 (cut_front front rest parts.1)

  cut_parts : (parts : List (Part Line)) → list_all (λ (part : Part Line). begins part.head) parts ≡ true → list_all (λ (part : Part Line). not (list_any begins part.tail)) parts ≡ true
      → cut_before begins (flat_map (λ (part : Part Line). part.head ∷ part.tail) parts) ≡ record { before = []; parts = parts }
  cut_parts [] heads tails = refl
  cut_parts (part ∷ parts) heads tails =
      let h = and_parts (begins part.head) (list_all (λ (p : Part Line). begins p.head) parts) heads in
      let t = and_parts (not (list_any begins part.tail)) (list_all (λ (p : Part Line). not (list_any begins p.tail)) parts) tails in
      ap₂ (λ (test : Bool) (cut : CutList Line). with_element test part.head cut) h.0
      (cut_front part.tail (flat_map (λ (p : Part Line). p.head ∷ p.tail) parts) (not-true (list_any begins part.tail) t.0)
      ∙ ap (λ (cut : CutList Line). record { before = part.tail ++ cut.before; parts = cut.parts }) (cut_parts parts h.1 t.1))
      ∙ ap (λ (tail : List Line). record { before = []; parts = record { head = part.head; tail = tail } ∷ parts }) (append-nil part.tail)

  pub is_only : (lines : List Line) (cut : CutList Line) → IsCut begins lines cut → cut ≡ cut_before begins lines
  is_only lines cut is =
      sym
      (cut_front cut.before (flat_map (λ (p : Part Line). p.head ∷ p.tail) cut.parts) is.before
      ∙ ap (λ (rest : CutList Line). record { before = cut.before ++ rest.before; parts = rest.parts }) (cut_parts cut.parts is.heads is.tails)
      ∙ ap (λ (before : List Line). record { before = before; parts = cut.parts }) (append-nil cut.before))
      ∙ ap (cut_before begins) is.whole
