-- Before the first line of a script nothing was visited, and the head of the ring leads to itself.
use Rattle.std.proofs.Common.{◌≡◌, ℕ, ◌*◌, ◌==◌, Bool, true, false, ◌||◌, Some, None, ap, refl, sym, ◌∙◌, ⊎_elim}
use Rattle.std.proofs.lemmas.Bool.{false≢true, eqb-true, or_cases}
use Rattle.std.proofs.lemmas.Option.{same_Some}
use Rattle.script_types.specs.declared.scripts.Script.{Script}
use Rattle.word_mem.specs.Memory.{Mem}
use Rattle.link_words.specs.Links.{link_of, link_read}
use Rattle.link_words.specs.Fields.{link_at}
use Rattle.drv_table.specs.DriverContent.{DriverContent}
use Rattle.drv_table.specs.Words.{head_block}
use Rattle.claims_driver.specs.Ring.{link_in}
use Rattle.law_driver.specs.ring_members.Words.{IsRing}
use Rattle.claims_driver.specs.Walk.{at_head}
use Rattle.law_driver_ring.proofs.lemmas.walk_members.Leading.{WordLeads, reached_leads}
use Rattle.law_driver_ring.proofs.lemmas.walk_members.Decoding.{link_decoded}
use Rattle.law_queues.specs.reached_rings.Reaching.{is_reached}
use Rattle.law_queues.proofs.lemmas.reached_rings.Computing.{is_reached_reached}
use Rattle.hc_copy.specs.declared.held.Held.{Held}
use Rattle.script_fits.specs.Fits.{IsFit}
use Rattle.law_scripts.specs.byte_answers.Bytes.{IsByteScript}
use Rattle.bus_world.specs.Opening.{opening_world}
use Rattle.law_world.specs.memory.Mixed.{IsMixedWorld}
use Rattle.law_world.proofs.lemmas.memory.Opening.{new_world_is_mixed}
use Rattle.law_microframes.specs.visits.Ranks.{name_of, next_of}
use Rattle.law_microframes.specs.time.Heights.{head_at, LinksFall}
use Rattle.law_microframes.specs.time.RoundLaws.{NewIsRounding}

-- a ring with the head alone
abbrev IsAlone : DriverContent → Bool → Type 0
IsAlone d rings = (n : ℕ) → is_reached d rings n ≡ true → n ≡ head_at

next_alone : (m : Mem) (d : DriverContent) (rings : Bool) (k : ℕ) → IsRing (link_in m) d → IsAlone d rings → next_of m head_at ≡ Some k → k ≡ head_at
unfolding link_read
next_alone m d rings k ring alone next =
    let l : WordLeads d rings (link_in m head_block) = reached_leads (link_in m) d rings head_block ring (at_head refl) in
    let to : next_of m head_at ≡ Some (32 * l.to) = ap (λ (w : ℕ). name_of (link_of (link_at w))) l.link ∙ ap name_of (link_decoded l.to) in
    same_Some k (32 * l.to) (sym next ∙ to) ∙ alone (32 * l.to) (is_reached_reached d rings l.to l.reached)

alone_falls : (m : Mem) (d : DriverContent) (rings : Bool) → IsRing (link_in m) d → IsAlone d rings → LinksFall m d rings (λ n. 0)
alone_falls m d rings ring alone = record {
  falls = λ n k on next other. absurd (other (next_alone m d rings k ring alone (ap (next_of m) (sym (alone n on)) ∙ next)));
  below_head = λ n on other. absurd (other (alone n on));
}

alone_by : (n : ℕ) → ((n == head_at) || false) ≡ true → n ≡ head_at
alone_by n on = ⊎_elim (λ (is : (n == head_at) ≡ true). eqb-true n head_at is) (λ (no : false ≡ true). absurd (false≢true no)) (or_cases (n == head_at) false on)

none_held : (h : Held) → None ≡ Some h → ⊥
none_held h e = cc

opening_falls : (s : Script) → IsFit s → IsByteScript s → LinksFall (opening_world s).memory (opening_world s).driver (opening_world s).registers.doorbell (λ n. 0)
opening_falls s fit bytes =
    let w : IsMixedWorld (opening_world s) = new_world_is_mixed s fit bytes in
    alone_falls (opening_world s).memory (opening_world s).driver (opening_world s).registers.doorbell w.mixed.now.framed.place.sound.ring (λ n on. alone_by n on)

pub new_is_rounding : NewIsRounding
new_is_rounding s fit bytes = record {
  mixed = new_world_is_mixed s fit bytes;
  rounds = record {
    height = λ n. 0;
    links_fall = opening_falls s fit bytes;
    behind = record { falling = tt; reached = tt; next = λ k ahead other. tt; in_hand = λ h there. absurd (none_held h there) };
  };
}
