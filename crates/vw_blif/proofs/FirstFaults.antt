-- The fault that stands first.
use Rattle.std.proofs.Common.{◌≡◌, List, [], ◌∷◌, ◌++◌, reverse, Option, Some, None, is_some, refl, sym, ◌∙◌, ap, append_assoc, append-nil, true≢false}
use Rattle.std.proofs.lemmas.List.{reverse-append}
use Rattle.vw_text.specs.declared.line.Line.{Line}
use Rattle.vw_blif.specs.declared.fault.TextFault.{TextFault}
use Rattle.vw_blif.specs.Faults.{fault_at}
use Rattle.std.specs.Option.{option_or}
use Rattle.vw_blif.specs.Read.{first_fault}
use Rattle.vw_blif.specs.FirstFault.{IsFirstFault}

-- the same behind other lines
record IsFirstBehind (before lines : List Line) (fault : TextFault) : Type 0 where
  front : List Line
  line : Line
  rest : List Line
  whole : lines ≡ front ++ line ∷ rest
  fine : first_fault before front ≡ None
  at : fault_at (reverse front ++ before) line ≡ Some fault

behind : (line : Line) (front before : List Line) → reverse (line ∷ front) ++ before ≡ reverse front ++ line ∷ before
behind line front before =
    ap (λ (ls : List Line). ls ++ before) (reverse-append (line ∷ []) front) ∙ append_assoc (reverse front) (line ∷ []) before

-- of a line with others behind it, by the fault of the line
found_further : (before : List Line) (line : Line) (lines : List Line) (fault : TextFault) (here : Option TextFault) → fault_at before line ≡ here
    → option_or here (first_fault (line ∷ before) lines) ≡ Some fault → (first_fault (line ∷ before) lines ≡ Some fault → IsFirstBehind (line ∷ before) lines fault)
    → IsFirstBehind before (line ∷ lines) fault
found_further before line lines fault (Some f) here is next =
    record { front = []; line = line; rest = lines; whole = refl; fine = refl; at = here ∙ is }
found_further before line lines fault None here is next =
    let behind_it = next is in
    record {
      front = line ∷ behind_it.front;
      line = behind_it.line;
      rest = behind_it.rest;
      whole = ap (λ (ls : List Line). line ∷ ls) behind_it.whole;
      fine = ap (λ (o : Option TextFault). option_or o (first_fault (line ∷ before) behind_it.front)) here ∙ behind_it.fine;
      at = ap (λ (ls : List Line). fault_at ls behind_it.line) (behind line behind_it.front before) ∙ behind_it.at;
    }

found : (before lines : List Line) (fault : TextFault) → first_fault before lines ≡ Some fault → IsFirstBehind before lines fault
found before [] fault is = absurd (true≢false (sym (ap is_some is)))
found before (line ∷ lines) fault is =
    found_further before line lines fault (fault_at before line) refl is (found (line ∷ before) lines fault)

fine_further : (here next : Option TextFault) → option_or here next ≡ None → (here ≡ None) × (next ≡ None)
fine_further None next fine = (refl, fine)
fine_further (Some f) next fine = absurd (true≢false (ap is_some fine))

counts : (before front : List Line) (line : Line) (rest : List Line) (fault : TextFault) → first_fault before front ≡ None → fault_at (reverse front ++ before) line ≡ Some fault
    → first_fault before (front ++ line ∷ rest) ≡ Some fault
counts before [] line rest fault fine at = ap (λ (o : Option TextFault). option_or o (first_fault (line ∷ before) rest)) at
counts before (first ∷ front) line rest fault fine at =
    let none = fine_further (fault_at before first) (first_fault (first ∷ before) front) fine in
    ap (λ (o : Option TextFault). option_or o (first_fault (first ∷ before) (front ++ line ∷ rest))) none.0
    ∙ counts (first ∷ before) front line rest fault none.1 (ap (λ (ls : List Line). fault_at ls line) (sym (behind first front before)) ∙ at)

pub is_first : (lines : List Line) (fault : TextFault) → first_fault [] lines ≡ Some fault → IsFirstFault lines fault
is_first lines fault is =
    let f = found [] lines fault is in
    record {
      front = f.front;
      line = f.line;
      rest = f.rest;
      whole = f.whole;
      fine = f.fine;
      at = ap (λ (ls : List Line). fault_at ls f.line) (sym (append-nil (reverse f.front))) ∙ f.at;
    }

pub first_counts : (lines : List Line) (fault : TextFault) → IsFirstFault lines fault → first_fault [] lines ≡ Some fault
first_counts lines fault is =
    ap (first_fault []) is.whole
    ∙ counts [] is.front is.line is.rest fault is.fine (ap (λ (ls : List Line). fault_at ls is.line) (append-nil (reverse is.front)) ∙ is.at)
