use Rattle.vw_blif.proofs.fault.TextFault.text.Goals as goal

pub returns-in-NoModel : goal.returns-in-NoModel
returns-in-NoModel c = rw c.in-NoModel.is c.at_line.ensures

pub returns-in-BadWords : goal.returns-in-BadWords
returns-in-BadWords c = rw c.in-BadWords.is c.at_line-in-BadWords.ensures

pub returns-in-BadRow : goal.returns-in-BadRow
returns-in-BadRow c = rw c.in-BadRow.is c.at_line-in-BadRow.ensures

pub returns-in-MixedRows : goal.returns-in-MixedRows
returns-in-MixedRows c = rw c.in-MixedRows.is c.at_line-in-MixedRows.ensures

pub returns-in-TooWide : goal.returns-in-TooWide
returns-in-TooWide c = rw c.in-TooWide.is c.at_line-in-TooWide.ensures

pub returns-in-BadLatchType : goal.returns-in-BadLatchType
returns-in-BadLatchType c = rw c.in-BadLatchType.is c.at_line-in-BadLatchType.ensures

pub returns-in-BadInit : goal.returns-in-BadInit
returns-in-BadInit c = rw c.in-BadInit.is c.at_line-in-BadInit.ensures

pub returns-in-DuplicateModel : goal.returns-in-DuplicateModel
returns-in-DuplicateModel c = rw c.in-DuplicateModel.is c.at_line-in-DuplicateModel.ensures

pub returns-in-DuplicatePort : goal.returns-in-DuplicatePort
returns-in-DuplicatePort c = rw c.in-DuplicatePort.is c.at_line-in-DuplicatePort.ensures

pub returns-in-BadBind : goal.returns-in-BadBind
returns-in-BadBind c = rw c.in-BadBind.is c.at_line-in-BadBind.ensures

pub returns-in-Unsupported : goal.returns-in-Unsupported
returns-in-Unsupported c = rw c.in-Unsupported.is c.of_unsupported.ensures
