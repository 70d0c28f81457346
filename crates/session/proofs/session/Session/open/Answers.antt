use Rattle.market.proofs.KeptCalls.{kept_call}
use Rattle.session.proofs.session.Session.open.Goals as goal

pub returns-then-not-nothing_blocked-clause-calls_keep : goal.returns-then-not-nothing_blocked-clause-calls_keep
returns-then-not-nothing_blocked-clause-calls_keep g c = kept_call

pub returns-clause-calls_keep : goal.returns-clause-calls_keep
returns-clause-calls_keep g c = kept_call
