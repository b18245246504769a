-- What is linked in a frame by the words of a mixed world stands there (EHCI 1.0, 2.3.6, 3.1, 4.6).
use Rattle.std.proofs.Common.{◌≡◌, ℕ, ◌+◌, ◌*◌, ◌<◌, ap, subst, ◌∙◌}
use Rattle.claims_base.specs.Controller.{Base, opening_base}
use Rattle.law_descriptors.specs.RowLaws.{HasFrames}
use Rattle.bus_world.specs.World.{World, controller_parts}
use Rattle.law_world.specs.memory.Mixed.{Standing, IsMixedAt}
use Rattle.law_world.proofs.lemmas.memory.lemmas.framed_memory.Now.{now_has_frames, begins_there}
use Rattle.claims_world.specs.Visits.{next_of, IsLedTo, IsInChain}
use Rattle.law_microframes.specs.visits.Visited.{StandsIn}
use Rattle.law_microframes.proofs.lemmas.visits.NoneLeftChains.{chain_is_standing}

pub in_chain_stands : (s : Standing) (w : World) (f n : ℕ) → IsMixedAt s w → f < 1024 → IsInChain w f n → StandsIn w.driver f n
in_chain_stands s w f n k low led =
    let frames : HasFrames w.memory w.driver = now_has_frames opening_base s.member s.recent s.descs s.parts s.hand s.frame
    (controller_parts w) w.driver k.now in
    let base : w.registers.periodic_list_base ≡ 32 * w.driver.periodic.list.list
    = ap (λ (x : Base). x.periodic_list_base) k.now.framed.runs.ring.registers
    ∙ begins_there opening_base s.member s.recent s.descs s.parts s.hand s.frame (controller_parts w) w.driver k.now in
    chain_is_standing w.memory w.driver f n frames low (subst (λ (b : ℕ). IsLedTo w.memory n (next_of w.memory (b + 4 * f))) base led)
