-- What `--help` and `--version` write.
use Rattle.std.specs.Prelude.{ℕ, List, [], ◌∷◌, codes}
use Rattle.vw_text.specs.Physical.{lines_text}

abbrev pub help_text : List ℕ
help_text = lines_text (
    codes "vwires: a compiler and an emulator for logic emulators of many FPGAs" ∷
    codes "" ∷
    codes "usage: vwires COMMAND FILE.. [SETTING..]" ∷
    codes "" ∷
    codes "  sim DESIGN STIM             runs a design, and writes its trace" ∷
    codes "      [unknown=0|1] [replay=STATE] [until=NET] [probe=NET].." ∷
    codes "  wave DESIGN STIM            runs a design, and writes its waveform (VCD)" ∷
    codes "      [unknown=0|1] [replay=STATE] [until=NET] [probe=NET].." ∷
    codes "  grade DESIGN STIM           writes which stuck nets a stimulus does not reveal" ∷
    codes "      [workers=N] [unknown=0|1] [part=K/N]" ∷
    codes "  nets DESIGN [probe=NET]..   writes the nets and the cells of a design" ∷
    codes "  check DESIGN BOARD PLAN [probe=NET]..  checks a plan, and writes its size" ∷
    codes "  plan DESIGN BOARD [chips=FILE] [probe=NET]..  makes a plan, and writes it" ∷
    codes "  report DESIGN BOARD         writes a plan in numbers and names, with a bound" ∷
    codes "      [plan=FILE] [probe=NET].." ∷
    codes "  run DESIGN BOARD STIM       runs a design on a board, and writes its trace" ∷
    codes "      [plan=FILE] [workers=N] [unknown=0|1] [until=NET] [probe=NET].." ∷
    codes "  save DESIGN BOARD STIM      runs a design on a board, and writes its state" ∷
    codes "      [plan=FILE] [workers=N] [unknown=0|1] [every=N] [until=NET]" ∷
    codes "  resume DESIGN BOARD STATE STIM  goes on from a state, and writes the trace" ∷
    codes "      [plan=FILE] [workers=N] [unknown=0|1] [until=NET] [probe=NET].." ∷
    codes "  emit DESIGN BOARD [plan=FILE]  writes a planned board as a design in BLIF" ∷
    codes "  demo CELLS                  runs a generated design of 1 to 20000 cells on" ∷
    codes "      [workers=N]             a generated board, and writes a summary" ∷
    codes "  --help                      writes this text" ∷
    codes "  --version                   writes the version" ∷
    codes "" ∷
    codes "  DESIGN         a design in BLIF, with one clock at most" ∷
    codes "  BOARD          chips, and the links between them and the host" ∷
    codes "  STIM           the bits of the inputs, a line for each clock" ∷
    codes "  PLAN           the chip of each cell, and when each wire has which pin" ∷
    codes "  STATE          a clock and the bits of the latches, as save writes it" ∷
    codes "" ∷
    codes "  unknown=0|1    the value that latches start at which have none (0)" ∷
    codes "  probe=NET      a net that is watched beside the outputs, up to 64 times" ∷
    codes "  plan=FILE      the plan to run by (one is made)" ∷
    codes "  chips=FILE     the chip of each cell, as in a plan (they are chosen)" ∷
    codes "  replay=STATE   the state to go on from, over the rows behind it (the start)" ∷
    codes "  until=NET      ends behind the first clock in which NET is 1 (behind the last)" ∷
    codes "  every=N        a state for each N clocks, too (only one at the end)" ∷
    codes "  part=K/N       the Kth of N shares of the faults, N up to 65536 (all)" ∷
    codes "  workers=N      how many threads run the chips or grade, 1 to 64 (4)" ∷
    codes "" ∷
    codes "The exit status is 0 where the command was carried out. A design (1), words" ∷
    codes "(2), a board (3), a plan (4) or a stimulus (5) was refused; the cells have no" ∷
    codes "room on the board (6); a read (7) or a write (8) failed; memory ran out (9);" ∷
    codes "an emitted board is too large for a design (10); a state was refused (11)." ∷
    codes "After each status but 0, standard error has one line that says why." ∷
    codes "" ∷
    codes "docs/formats.md has the formats of all files, and each message." ∷ []
    )

abbrev pub version_text : List ℕ
version_text = lines_text (codes "vwires 1.0.0" ∷ [])
