-- Items in print, from the pieces in which they are written.
use Rattle.std.proofs.Common.{◌≡◌, ◌∙◌, ◌++◌, ◌+◌, ℕ, suc, Bool, true, false, cond, List, [], ◌∷◌, map, replicate, codes, ap, ap₂, refl, sym, append-nil, append_assoc, arith}
use Rattle.std.specs.List.{flat_map, join_with_byte}
use Rattle.std.proofs.lemmas.Grind.{flat_map-append}
use Rattle.vw_net.specs.declared.cell.Init.TheVariants.{Zero as StartsAtZero, One as StartsAtOne}
use Rattle.vw_net.specs.declared.cover.Cover.{Cover}
use Rattle.vw_net.specs.declared.cover.Mark.{Mark}
use Rattle.vw_net.specs.declared.cover.Mark.TheVariants.{Any}
use Rattle.vw_net.specs.declared.cover.Row.{Row}
use Rattle.vw_text.specs.Physical.{lines_text}
use Rattle.vw_text.specs.PlainLines.{plain_text}
use Rattle.vw_blif.specs.Printed.{row_words}
use Rattle.vw_blif.specs.Rows.{value_word}
use Rattle.vw_plan.specs.PlannedBoard.{PlannedBoard}
use Rattle.vw_emit_hardware.specs.Items.{ring_stage, sequencer}
use Rattle.vw_emit_hardware.specs.Locals.{Local, LocalItem, gate, moment, register, table}
use Rattle.vw_emit_hardware.specs.Names.{name_at}
use Rattle.vw_emit_hardware.specs.Tables.{cover_marks, cover_table, off_table}
use Rattle.vw_emit_names.specs.Spelled.{spelled}
use Rattle.vw_emit_text.specs.Steps.{cover_lines, item_text, items_text, names_text, off_lines, row_line, row_lines, stages_from}
use Rattle.vw_text.proofs.WrittenPieces.{HasGrown, grown, joined}
use Rattle.vw_emit_text.proofs.Lists.{gathered_lines}

-- ---- lines

-- words, each behind a space
abbrev pub spaced : List (List ℕ) → List ℕ
spaced words = flat_map (λ other. 32 ∷ other) words

-- words with a space between each two
pub joined_words : (word : List ℕ) (words : List (List ℕ)) → join_with_byte 32 (word ∷ words) ≡ word ++ spaced words
joined_words word [] = sym (append-nil word)
joined_words word (next ∷ words) = ap (λ (rest : List ℕ). word ++ 32 ∷ rest) (joined_words next words)

-- one line
pub line_on : (word : List ℕ) (words : List (List ℕ)) → plain_text ((word ∷ words) ∷ []) ≡ (word ++ spaced words) ++ 10 ∷ []
line_on word words =
    append-nil (join_with_byte 32 (word ∷ words) ++ 10 ∷ []) ∙ ap (λ (line : List ℕ). line ++ 10 ∷ []) (joined_words word words)

-- ---- items behind each other

-- what is written of lists, one behind the other
texts_joined : {X : Type 0} (spell : X → List ℕ) (first : List X) (others : List (List X))
    → joined (flat_map spell first) (map (flat_map spell) others) ≡ flat_map spell (joined first others)
texts_joined spell first [] = refl
texts_joined spell first (second ∷ others) =
    ap (λ (rest : List ℕ). flat_map spell first ++ rest) (texts_joined spell second others) ∙ sym (flat_map-append spell first (joined second others))

pub grown_items : (old : List ℕ) (first : List LocalItem) (others : List (List LocalItem)) (text : List ℕ)
    → HasGrown old (items_text first) (map items_text others) text → text ≡ old ++ items_text (joined first others)
grown_items old first others text has =
    grown old (items_text first) (map items_text others) text has ∙ ap (λ (written : List ℕ). old ++ written) (texts_joined item_text first others)

-- ---- the sequencer

pub sequencer_is : (period : ℕ) → sequencer period ≡ register (moment period) (moment 0) StartsAtOne ∷ stages_from 0 period
sequencer_is period =
    ap (λ (rest : List LocalItem). register (moment period) (moment 0) StartsAtOne ∷ rest)
    (gathered_lines (λ before. ring_stage before ∷ []) (λ before. register (moment before) (moment (before + 1)) StartsAtZero) period
    (λ before. let next : suc before ≡ before + 1 = omega arith in ap (λ (number : ℕ). register (moment before) (moment number) StartsAtZero ∷ []) next))

pub sequencer_pieces : (period : ℕ) (old first all : List ℕ) → first ≡ old ++ item_text (register (moment period) (moment 0) StartsAtOne)
    → all ≡ first ++ items_text (stages_from 0 period) → all ≡ old ++ items_text (sequencer period)
sequencer_pieces period old first all one other =
    other ∙ ap (λ (front : List ℕ). front ++ items_text (stages_from 0 period)) one
    ∙ append_assoc old (item_text (register (moment period) (moment 0) StartsAtOne)) (items_text (stages_from 0 period))
    ∙ ap (λ (items : List LocalItem). old ++ items_text items) (sym (sequencer_is period))

-- ---- gates

row_is : (on : Bool) (marks : List Mark) → join_with_byte 32 (row_words on marks) ≡ row_line marks (value_word on)
row_is on [] = refl
row_is on (mark ∷ marks) = refl

rows_are : (on : Bool) (rows : List Row) → plain_text (map (row_words on) (cover_marks rows)) ≡ lines_text (row_lines rows (value_word on))
rows_are on [] = refl
rows_are on (row ∷ rows) = ap₂ (λ (first rest : List ℕ). (first ++ 10 ∷ []) ++ rest) (row_is on row.marks) (rows_are on rows)

-- the first line of a table, without its end
abbrev names_line : List Local → Local → List ℕ
names_line ins out = join_with_byte 32 (codes ".names" ∷ (map spelled ins ++ spelled out ∷ []))

cover_is : (ins : List Local) (out : Local) (cover : Cover) → item_text (cover_table ins out cover) ≡ (names_line ins out ++ 10 ∷ []) ++ lines_text (cover_lines cover)
cover_is ins out cover = by cover.on cover.rows where
  off : (rows : List Row) → item_text (off_table ins out cover.inputs rows) ≡ (names_line ins out ++ 10 ∷ []) ++ lines_text (off_lines cover.inputs rows)
  off [] = ap (λ (line : List ℕ). (names_line ins out ++ 10 ∷ []) ++ ((line ++ 10 ∷ []) ++ [])) (row_is true (replicate cover.inputs Any))
  off (row ∷ rows) = ap (λ (rest : List ℕ). (names_line ins out ++ 10 ∷ []) ++ rest) (rows_are false (row ∷ rows))

  by : (on : Bool) (rows : List Row) → item_text (cond on (table ins out true (cover_marks rows)) (off_table ins out cover.inputs rows))
      ≡ (names_line ins out ++ 10 ∷ []) ++ lines_text (cond on (row_lines rows (codes "1")) (off_lines cover.inputs rows))
  by true rows = ap (λ (rest : List ℕ). (names_line ins out ++ 10 ∷ []) ++ rest) (rows_are true rows)
  by false rows = off rows

gate_shape : (word names last end rows : List ℕ) → word ++ (names ++ (last ++ (end ++ rows))) ≡ ((word ++ (names ++ last)) ++ end) ++ rows
gate_shape word names last end rows = simp append_assoc

names_spaced : (planned : PlannedBoard) (node : ℕ) (nets : List ℕ) → spaced (map spelled (map (name_at planned node) nets)) ≡ names_text planned node nets
names_spaced planned node [] = refl
names_spaced planned node (net ∷ nets) = ap (λ (rest : List ℕ). (32 ∷ spelled (name_at planned node net)) ++ rest) (names_spaced planned node nets)

pub gate_pieces : (planned : PlannedBoard) (node cell : ℕ) (nets : List ℕ) (cover : Cover)
    → codes ".names" ++ (names_text planned node nets ++ ((32 ∷ spelled (gate cell)) ++ ((10 ∷ []) ++ lines_text (cover_lines cover))))
    ≡ item_text (cover_table (map (name_at planned node) nets) (gate cell) cover)
gate_pieces planned node cell nets cover =
    let ins = map (name_at planned node) nets in
    let own = spelled (gate cell) in
    let rows = lines_text (cover_lines cover) in
    gate_shape (codes ".names") (names_text planned node nets) (32 ∷ own) (10 ∷ []) rows
    ∙ sym (cover_is ins (gate cell) cover
    ∙ ap (λ (line : List ℕ). (line ++ 10 ∷ []) ++ rows) (joined_words (codes ".names") (map spelled ins ++ own ∷ [])
    ∙ ap (λ (words : List ℕ). codes ".names" ++ words) (flat_map-append (λ other. 32 ∷ other) (map spelled ins) (own ∷ [])
    ∙ ap₂ (λ (front back : List ℕ). front ++ back) (names_spaced planned node nets) (append-nil (32 ∷ own)))))
