-- Marks that are written one after the other, and the shapes of lines.
use Rattle.std.proofs.Common.{◌≡◌, ◌<◌, ◌+◌, ◌-◌, ◌++◌, ℕ, suc, List, [], ◌∷◌, replicate, ap, append-nil, append_assoc, arith}
use Rattle.vw_net.specs.declared.cover.Mark.TheVariants.{Any}
use Rattle.vw_text.proofs.WrittenPieces.{next_written}
use Rattle.vw_emit_text.specs.Steps.{marks_text}

-- marks that any value matches
pub any_more : (i n : ℕ) (text more all : List ℕ) → i < n → more ≡ text ++ 45 ∷ [] → text ++ marks_text (replicate (n - i) Any) ≡ all → more ++ marks_text (replicate (n - (i + 1)) Any) ≡ all
any_more i n text more all within is so_far =
    let left : n - i ≡ suc (n - (i + 1)) = omega arith in
    next_written text more all (45 ∷ []) (marks_text (replicate (n - (i + 1)) Any)) (marks_text (replicate (n - i) Any)) is (ap (λ (many : ℕ). marks_text (replicate many Any)) left) so_far

-- a line that places a model
pub placed_shape : (word name ins outs end : List ℕ) → (word ++ name) ++ (ins ++ (outs ++ end)) ≡ (word ++ (name ++ (ins ++ outs))) ++ end
placed_shape word name ins outs end = simp append_assoc

-- a model
pub model_shape : (word name ins_word ins outs_word outs items last end : List ℕ) → (word ++ name) ++ ((end ++ ins_word) ++ (ins ++ ((end ++ outs_word) ++ (outs ++ (end ++ (items ++ (last ++ end)))))))
    ≡ ((word ++ (name ++ [])) ++ end) ++ (((ins_word ++ ins) ++ end) ++ (((outs_word ++ outs) ++ end) ++ (items ++ (last ++ end))))
model_shape word name ins_word ins outs_word outs items last end = simp (append_assoc, append-nil)
