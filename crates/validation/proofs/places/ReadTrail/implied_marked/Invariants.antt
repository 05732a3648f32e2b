use Rattle.validation.specs.Inner.Reasons.{ImpliedMarkedTo}
use Rattle.validation.proofs.places.ReadTrail.implied_marked.Given as goal

abbrev pub invariant-loop-i : goal.invariant-loop-i
invariant-loop-i l = ImpliedMarkedTo l.self.variables l.self.session.now l.marks l.i
