use Rattle.std.proofs.Common.{◌≢◌, sym, ap, ◌∙◌}
use Rattle.dev_control.specs.declared.rows.StageToken.TheVariants as Tokens
use Rattle.dev_control.specs.Stages.{token_of}
use Rattle.dev_control.proofs.Kept.{setup_stays}
use Rattle.endpoint_script.specs.Controlling.{place_at}
use Rattle.endpoint_script.proofs.control_endpoint.ControlEndpoint.answer.Goals as goal

pub invariant_of-self-in_default : goal.invariant_of-self-in_default
invariant_of-self-in_default c =
    let other : token_of c.args.ask.now.pid ≢ Tokens.Setup = λ e. c.in_default.not-Setup (c.token.ensures ∙ e) in
    rw c.answer-answer.ensures.after (c.self.invariant ∙ ap (place_at c.self.inside.requests.items) (sym (setup_stays _ c.self.inside.stages c.args.ask.now c.args.out.now other)))
