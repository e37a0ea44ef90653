use Rattle.model.proofs.Answering.{go-as-jobs, idle, jobs-read}
use Rattle.model.proofs.Joining.{joins-last}
use Rattle.run.specs.Runs.{state}
use Rattle.run.proofs.Reaching.{by_law}
use Rattle.run.proofs.run.Run.law.Goals as goal

pub returns : goal.returns
returns g c =
    let s = state g.S.Store.cells c.args.self.now in
    record { lawful = by_law s c.args.self.now.reached; idle = idle s; joins = joins-last s; reads = jobs-read s; as_jobs = go-as-jobs s }
