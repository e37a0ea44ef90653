use Rattle.std.proofs.Common.{◌^◌, sym, ◌∙◌}
use Rattle.store.proofs.Changes.{all_from_sound, fit_replay, length-replay}
use Rattle.write_back.specs.Holding.{held_in}
use Rattle.write_back.proofs.WriteBackStore.count.Goals as goal

pub returns-clause-value : goal.returns-clause-value
returns-clause-value g c = c.count.ensures.value ∙ sym (length-replay (g.S.Store.cells c.args.self.now.below) (held_in c.args.self.now.held))

pub returns-clause-fit : goal.returns-clause-fit
returns-clause-fit g c =
    let held = c.args.self.now.held in
    fit_replay (2 ^ 32) (g.S.Store.cells c.args.self.now.below) (held_in held) c.count.ensures.fit (all_from_sound (2 ^ 32) (held_in held) held.sound)
