-- Calls by numbers alone, and their answers, as the model has them. Assumes nothing.
use Rattle.std.specs.Prelude.{List, map}
use Rattle.model.specs.Calls as model
use Rattle.table.specs.Slips.{numbers, numbered}
use Rattle.run.specs.declared.requests.Request.{Request}
use Rattle.run.specs.declared.requests.Request.TheVariants.{Turn, Settle, Open, Read, Write, File, Withdraw}
use Rattle.run.specs.declared.requests.Answer.{Answer}
use Rattle.run.specs.declared.requests.Answer.TheVariants.{OfTurn, OfSettling, OfOpening, OfReading, OfAcceptance}

abbrev pub call_of : Request → model.Call
call_of (Turn job) = model.Turn job
call_of Settle = model.Settle
call_of Open = model.Open
call_of (Read slip cell) = model.Read (numbers slip) cell
call_of (Write slip cell number) = model.Write (numbers slip) cell number
call_of (File slip) = model.File (numbers slip)
call_of (Withdraw slip) = model.Withdraw (numbers slip)

abbrev pub calls_of : List Request → List model.Call
calls_of requests = map call_of requests

abbrev pub answer_of : Answer → model.Answer
answer_of (OfTurn answer) = model.OfTurn answer
answer_of OfSettling = model.OfSettling
answer_of (OfOpening answer) = model.OfOpening (numbered answer)
answer_of (OfReading answer) = model.OfReading answer
answer_of (OfAcceptance answer) = model.OfAcceptance answer
