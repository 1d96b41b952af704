use Rattle.std.proofs.Common.{Option, subst}
use Rattle.vw_chain.specs.declared.chain.Chain.{Chain}
use Rattle.vw_chain.specs.Chains.{IsChain, LeadsThere}
use Rattle.vw_chain.specs.Timing.{planned_of}
use Rattle.vw_report.proofs.ChainNets.{chain_end, chain_first, chain_steps}
use Rattle.vw_report.proofs.reported.Reported.push_critical.Goals as goal

pub push_chain-requires-clause-first : goal.push_chain-requires-clause-first
push_chain-requires-clause-first c =
    let planned = planned_of c.args.self.now.timed.now in
    let last = c.args.critical.now.last in
    let is : IsChain planned last c.in-Some.chain = subst (λ (found : Option Chain). LeadsThere planned last found) c.in-Some.is c.requires.chain in
    chain_first planned c.args.self.now.timed.now.sound last c.in-Some.chain is

pub push_chain-requires-clause-steps : goal.push_chain-requires-clause-steps
push_chain-requires-clause-steps c =
    let planned = planned_of c.args.self.now.timed.now in
    let last = c.args.critical.now.last in
    let is : IsChain planned last c.in-Some.chain = subst (λ (found : Option Chain). LeadsThere planned last found) c.in-Some.is c.requires.chain in
    chain_steps planned c.args.self.now.timed.now.sound last c.in-Some.chain is

pub push_chain-requires-clause-end : goal.push_chain-requires-clause-end
push_chain-requires-clause-end c =
    let planned = planned_of c.args.self.now.timed.now in
    let last = c.args.critical.now.last in
    let is : IsChain planned last c.in-Some.chain = subst (λ (found : Option Chain). LeadsThere planned last found) c.in-Some.is c.requires.chain in
    chain_end planned c.args.self.now.timed.now.sound last c.in-Some.chain is
