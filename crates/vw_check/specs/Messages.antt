-- The message line of each fault of a plan, with the end of the line.
use Rattle.std.specs.Prelude.{ℕ, List, [], ◌∷◌, ◌++◌, codes}
use Rattle.std.specs.Fmt.{decimal}
use Rattle.vw_check.specs.declared.fault.PlanFault.{PlanFault}
use Rattle.vw_check.specs.declared.fault.PlanFault.TheVariants.{WrongCells, ZeroPeriod, BadChip, Overfull, MissingWire, ExtraWire, BrokenRoute, BadPin, OutOfOrder, PastPeriod, PinClash, TooEarly, LateLatch, NoMemory}

abbrev pub fault_text : PlanFault → List ℕ
fault_text (WrongCells found wanted) = codes "plan 3: " ++ (decimal found ++ (codes " cells, wanted " ++ (decimal wanted ++ 10 ∷ [])))
fault_text ZeroPeriod = codes "plan 4: period 0" ++ 10 ∷ []
fault_text (BadChip cell) = codes "plan 5: cell " ++ (decimal cell ++ (codes " has no chip" ++ 10 ∷ []))
fault_text (Overfull chip count) = codes "plan 6: chip " ++ (decimal chip ++ (codes " has " ++ (decimal count ++ (codes " cells" ++ 10 ∷ []))))
fault_text (MissingWire net node) = codes "plan 7: no wire of net " ++ (decimal net ++ (codes " to node " ++ (decimal node ++ 10 ∷ [])))
fault_text (ExtraWire wire) = codes "plan 8: wire " ++ (decimal wire ++ (codes " isn't needed" ++ 10 ∷ []))
fault_text (BrokenRoute wire hop) = codes "plan 9: wire " ++ (decimal wire ++ (codes " hop " ++ (decimal hop ++ (codes " breaks the route" ++ 10 ∷ []))))
fault_text (BadPin wire hop) = codes "plan 10: wire " ++ (decimal wire ++ (codes " hop " ++ (decimal hop ++ (codes " has no pin" ++ 10 ∷ []))))
fault_text (OutOfOrder wire hop) = codes "plan 11: wire " ++ (decimal wire ++ (codes " hop " ++ (decimal hop ++ (codes " is out of order" ++ 10 ∷ []))))
fault_text (PastPeriod wire hop) = codes "plan 12: wire " ++ (decimal wire ++ (codes " hop " ++ (decimal hop ++ (codes " is past the period" ++ 10 ∷ []))))
fault_text (PinClash wire hop other clash) = codes "plan 13: wire " ++ (decimal wire ++ (codes " hop " ++ (decimal hop ++ (codes " and wire " ++ (decimal other ++ (codes " hop " ++ (decimal clash ++ (codes " share a pin" ++ 10 ∷ []))))))))
fault_text (TooEarly wire sent usable) = codes "plan 14: wire " ++ (decimal wire ++ (codes " sent at " ++ (decimal sent ++ (codes ", usable at " ++ (decimal usable ++ 10 ∷ [])))))
fault_text (LateLatch cell usable) = codes "plan 15: latch " ++ (decimal cell ++ (codes " usable at " ++ (decimal usable ++ 10 ∷ [])))
fault_text NoMemory = codes "out of memory" ++ 10 ∷ []
