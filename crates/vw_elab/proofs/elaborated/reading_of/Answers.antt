use Rattle.std.proofs.Common.{sym}
use Rattle.vw_elab.proofs.ReadTables.{listed_at, reading_is}
use Rattle.vw_elab.proofs.elaborated.reading_of.Goals as goal

pub returns : goal.returns
returns c =
    let tables = c.args.parts.now.tables in
    let site = c.in_ok-site.ensures.lookup in
    let entry = c.in_ok-entry.ensures.lookup in
    let names = c.in_ok-names.ensures.lookup in
    let reads = c.in_ok-reads.ensures.lookup in
    let claim = c.in_ok-claim.ensures.lookup in
    sym (reading_is c.args.parts.now c.args.cell c.args.input c.in_ok-site.site.now c.in_ok-entry.entry.now c.in_ok-names.names.now c.in_ok-reads.reads.now c.in_ok-claim.claim.now
    (listed_at c.as_slice.ensures site.3.0 site.1) (listed_at c.instances.ensures entry.3.0 entry.1) (listed_at c.names.ensures names.3.0 names.1) (listed_at c.reads.ensures reads.3.0 reads.1)
    (listed_at c.as_slice-2.ensures claim.3.0 claim.1))
