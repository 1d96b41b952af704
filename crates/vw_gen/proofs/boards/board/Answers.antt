use Rattle.std.proofs.Common.{◌∙◌, ◌+◌, ◌/◌, ◌++◌, ℕ, List, ap}
use Rattle.std.specs.Prelude.{codes}
use Rattle.std.specs.List.{flat_map, range_with_len}
use Rattle.std.specs.Fmt.{decimal}
use Rattle.vw_gen.specs.Board.{row_links, host_links}
use Rattle.vw_gen.proofs.WrittenTexts.{board_written}
use Rattle.vw_gen.proofs.boards.board.Goals as goal

pub returns : goal.returns
returns c =
    let begun = c.in_ok-extend_from_slice.ensures.items ∙ ap (λ (text : List ℕ). text ++ codes "board 1\nchips 16\ncells ") c.new-text.ensures.items in
    board_written (decimal (c.args.n / 12 + 1)) (flat_map row_links (range_with_len 0 4)) host_links c.extend_from_slice.new.self.items c.push_number.new.text.items c.extend_from_slice-2.new.self.items c.push_rows.new.text.items c.push_host.new.text.items
    begun c.in_ok-push_number.ensures c.in_ok-extend_from_slice-2.ensures.items c.in_ok-push_rows.ensures c.in_ok-push_host.ensures
