-- A text that is written piece by piece.
use Rattle.std.proofs.Common.{◌≡◌, ℕ, ◌+◌, Result, Ok, Err, List, [], ◌++◌, append-nil, length, take, drop, Option, Some, None, refl, sym, ◌∙◌, ap, subst, append_assoc, arith, length-append}
use Rattle.std.specs.Prelude.{option_map}
use Rattle.std.proofs.lemmas.List.{take_at, take-append-drop}
use Rattle.std.proofs.Math.Seq.{take-add}
use Rattle.vw_outside.specs.declared.unwritten.Unwritten.{Unwritten}
use Rattle.vw_outside.specs.declared.unwritten.Unwritten.TheVariants.{WriteFault, NoMemory}
use Rattle.vw_outside.specs.Writes.{SeenSink, appended, faulted, WrotePart, FailedAfterPart, WritesOut}

-- two pieces are one
pub appended-appended : (sink : SeenSink) (first second : List ℕ) → appended (appended sink first) second ≡ appended sink (first ++ second)
appended-appended sink first second = ap (λ (told : Option (List ℕ)). record sink { told = told }) (told_twice sink.told)
  where
    told_twice : (told : Option (List ℕ)) → option_map (λ so_far. so_far ++ second) (option_map (λ so_far. so_far ++ first) told) ≡ option_map (λ so_far. so_far ++ (first ++ second)) told
    told_twice None = refl
    told_twice (Some so_far) = ap Some (append_assoc so_far first second)

-- no piece
pub appended-nil : (sink : SeenSink) → appended sink [] ≡ sink
appended-nil sink = ap (λ (told : Option (List ℕ)). record sink { told = told }) (same_told sink.told)
  where
    same_told : (told : Option (List ℕ)) → option_map (λ so_far. so_far ++ []) told ≡ told
    same_told None = refl
    same_told (Some so_far) = ap Some (append-nil so_far)

-- some bytes more of the same text
pub appended_further : (before mid after : SeenSink) (bytes : List ℕ) (done count : ℕ) → mid ≡ appended before (take done bytes) → after ≡ appended mid (take count (drop done bytes)) → after ≡ appended before (take (done + count) bytes)
appended_further before mid after bytes done count first second =
    second ∙ ap (λ (sink : SeenSink). appended sink (take count (drop done bytes))) first
    ∙ appended-appended before (take done bytes) (take count (drop done bytes))
    ∙ ap (appended before) (sym (take-add done count bytes))

-- so much of the text was appended that this is left
pub record IsLeft (before : SeenSink) (text : List ℕ) (after : SeenSink) (rest : List ℕ) : Type 0 where
  pub so_far : List ℕ
  pub seen : after ≡ appended before so_far
  pub whole : so_far ++ rest ≡ text

pub nothing_written : (before : SeenSink) (text : List ℕ) → IsLeft before text before text
nothing_written before text = record { so_far = []; seen = sym (appended-nil before); whole = refl }

module _ (before : SeenSink) (text : List ℕ) where
  -- one more piece
  pub written_further : (mid after : SeenSink) (piece rest : List ℕ) → IsLeft before text mid (piece ++ rest) → after ≡ appended mid piece → IsLeft before text after rest
  written_further mid after piece rest left more = record {
    so_far = left.so_far ++ piece;
    seen = more ∙ ap (λ (sink : SeenSink). appended sink piece) left.seen ∙ appended-appended before left.so_far piece;
    whole = append_assoc left.so_far piece rest ∙ left.whole;
  }

  -- nothing is left
  pub all_written : (after : SeenSink) → IsLeft before text after [] → after ≡ appended before text
  all_written after left = left.seen ∙ ap (appended before) (sym (append-nil left.so_far) ∙ left.whole)

  front_written : (after : SeenSink) (front rest : List ℕ) → after ≡ appended before front → front ++ rest ≡ text → WrotePart text before after
  front_written after front rest seen whole =
      (length front, omega (arith, ap (λ (t : List ℕ). length t) whole, length-append front rest), seen ∙ ap (appended before) (sym (ap (take (length front)) (sym whole) ∙ take_at front rest (length front) refl)))

  -- what was written is a part of the text
  pub part_written : (after : SeenSink) (rest : List ℕ) → IsLeft before text after rest → WrotePart text before after
  part_written after rest left = front_written after left.so_far rest left.seen left.whole

  -- and so it is with a part of the next piece
  pub part_of_piece : (mid after : SeenSink) (piece rest : List ℕ) → IsLeft before text mid (piece ++ rest) → WrotePart piece mid after → WrotePart text before after
  part_of_piece mid after piece rest left part =
      front_written after (left.so_far ++ take part.0 piece) (drop part.0 piece ++ rest)
      (part.2 ∙ ap (λ (sink : SeenSink). appended sink (take part.0 piece)) left.seen ∙ appended-appended before left.so_far (take part.0 piece))
      (append_assoc left.so_far (take part.0 piece) (drop part.0 piece ++ rest)
      ∙ ap (λ t. left.so_far ++ t) (sym (append_assoc (take part.0 piece) (drop part.0 piece) rest) ∙ ap (λ p. p ++ rest) (take-append-drop part.0 piece))
      ∙ left.whole)

  -- a write that failed within the next piece failed within the text
  pub failed_in_piece : (mid after : SeenSink) (piece rest : List ℕ) → IsLeft before text mid (piece ++ rest) → FailedAfterPart piece mid after → FailedAfterPart text before after
  failed_in_piece mid after piece rest left failed =
      let part = part_of_piece mid (appended mid (take failed.0 piece)) piece rest left (failed.0, failed.1, refl) in
      (part.0, part.1, failed.2 ∙ ap faulted part.2)

-- the same at the last piece
last_left : (before : SeenSink) (text : List ℕ) (mid : SeenSink) (piece : List ℕ) → IsLeft before text mid piece → IsLeft before text mid (piece ++ [])
last_left before text mid piece left = subst (λ (rest : List ℕ). IsLeft before text mid rest) (sym (append-nil piece)) left

pub last_piece : (before : SeenSink) (text : List ℕ) (mid after : SeenSink) (piece : List ℕ) → IsLeft before text mid piece → after ≡ appended mid piece → after ≡ appended before text
last_piece before text mid after piece left more =
    all_written before text after (written_further before text mid after piece [] (last_left before text mid piece left) more)

-- where a piece wasn't written whole, the text wasn't
pub unwritten_in_piece : (before : SeenSink) (text : List ℕ) (mid after : SeenSink) (piece rest : List ℕ) (why : Unwritten) → IsLeft before text mid (piece ++ rest) → WritesOut piece mid after (Err why) → WritesOut text before after (Err why)
unwritten_in_piece before text mid after piece rest WriteFault left failed = failed_in_piece before text mid after piece rest left failed
unwritten_in_piece before text mid after piece rest NoMemory left part = part_of_piece before text mid after piece rest left part

-- with the last piece the text ends as the piece does
pub ends_with_piece : (before : SeenSink) (text : List ℕ) (mid after : SeenSink) (piece : List ℕ) (written : Result (Unit {0}) Unwritten) → IsLeft before text mid piece → WritesOut piece mid after written → WritesOut text before after written
ends_with_piece before text mid after piece (Ok done) left all = last_piece before text mid after piece left all
ends_with_piece before text mid after piece (Err why) left failed = unwritten_in_piece before text mid after piece [] why (last_left before text mid piece left) failed
