-- What each command asks for: a pay-in, the opening, or a call of the session.
use Rattle.market.specs.declared.call.Call.TheVariants as calls
use Rattle.command.specs.declared.command.Command.{Command}
use Rattle.command.specs.declared.command.Command.TheVariants.{PayIn, Open, Submit, Withdraw, Strike, Add, Deal, Annul, Close}
use Rattle.tape.specs.declared.task.Task.{Task}
use Rattle.tape.specs.declared.task.Task.TheVariants as tasks

abbrev pub task_of : Command → Task
task_of (PayIn who what) = tasks.PayIn who what
task_of Open = tasks.Open
task_of (Submit order) = tasks.Call (calls.Submit order)
task_of (Withdraw who order) = tasks.Call (calls.Withdraw who order)
task_of Strike = tasks.Call calls.Strike
task_of (Add who side lots) = tasks.NotYet
task_of (Deal rule) = tasks.NotYet
task_of Annul = tasks.Call calls.Annul
task_of Close = tasks.Call calls.Close
