use Rattle.std.proofs.Common.{ap, ◌∙◌, subst}
use Rattle.map_machine.specs.Loads.{Opened, ready, turned_away}
use Rattle.map_run.specs.Loads.{LoadsAs}
use Rattle.map_run.proofs.LoadLemmas.{accepted_as, refused_as}
use Rattle.map_run.proofs.loads.put_loaded.Goals as goal

pub returns-in-Accepted-clause-loads : goal.returns-in-Accepted-clause-loads
returns-in-Accepted-clause-loads g c = λ old o opens.
    let K = g.K.Sink in
    subst (λ (u : Opened). LoadsAs u (K.held c.args.sink.now) (K.held c.accept.new.sink) c.accept.result) (ap (ready c.args.session) c.deref.ensures.value ∙ accepted_as old c.args.session c.args.reply.now o opens c.in-Accepted.is) c.accept.ensures.loads

pub returns-in_default-clause-loads : goal.returns-in_default-clause-loads
returns-in_default-clause-loads g c = λ old o opens.
    let K = g.K.Sink in
    subst (λ (u : Opened). LoadsAs u (K.held c.args.sink.now) (K.held c.refuse.new.sink) c.refuse.result) (ap turned_away c.deref-in_default.ensures.value ∙ refused_as old c.args.session c.args.reply.now o opens c.in_default.not-Accepted) c.refuse.ensures.loads
