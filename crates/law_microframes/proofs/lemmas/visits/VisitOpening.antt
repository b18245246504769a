-- Before the first line of a script nothing was visited, and no link leads anywhere.
use Rattle.std.proofs.Common.{◌≡◌, ℕ, true, false, []}
use Rattle.std.proofs.lemmas.Bool.{false≢true}
use Rattle.law_controller.proofs.Common.{over_not_periodic}
use Rattle.law_frames.proofs.Common.{none_some}
use Rattle.law_microframes.proofs.Common.{no_work, in_list}
use Rattle.script_types.specs.declared.scripts.Script.{Script}
use Rattle.script_fits.specs.Fits.{IsFit}
use Rattle.law_scripts.specs.byte_answers.Bytes.{IsByteScript}
use Rattle.drv_chains.specs.declared.members.Member.{Member}
use Rattle.drv_chains.specs.declared.members.Member.TheVariants.{Once, Each}
use Rattle.drv_chains.specs.Chains.{of_lists}
use Rattle.drv_members.specs.Members.{is_linked}
use Rattle.law_descriptors.specs.Meeting.{no_recent}
use Rattle.bus_world.specs.Opening.{opening_world}
use Rattle.law_world.specs.memory.Mixed.{IsMixedWorld}
use Rattle.law_world.proofs.lemmas.memory.Opening.{new_world_is_mixed}
use Rattle.claims_world.specs.Visits.{IsInChain, frame_in}
use Rattle.law_microframes.specs.visits.Visited.{StandsIn}
use Rattle.law_microframes.specs.visits.VisitLaws.{NewIsVisiting}
use Rattle.law_microframes.proofs.lemmas.visits.NoneLeftWorlds.{in_chain_stands}

none_linked : (x : Member) → is_linked (of_lists [] []) x ≡ true → ⊥
none_linked (Once d) on = false≢true on
none_linked (Each q) on = false≢true on

-- no word leads anywhere
none_in_chain : (s : Script) → IsFit s → IsByteScript s → (n : ℕ)
    → IsInChain (opening_world s) (frame_in (opening_world s).control.frame.index) n → ⊥
none_in_chain s fit bytes n led =
    let k : IsMixedWorld (opening_world s) = new_world_is_mixed s fit bytes in
    let h : StandsIn (opening_world s).driver (frame_in (opening_world s).control.frame.index) n
    = in_chain_stands k.standing (opening_world s) (frame_in (opening_world s).control.frame.index) n k.mixed
    (in_list (opening_world s).control.frame.index) led in
    none_linked h.member h.linked

pub new_is_visiting : NewIsVisiting
new_is_visiting s fit bytes = record {
  mixed = new_world_is_mixed s fit bytes;
  visits = record {
    left = no_recent;
    left_are = λ n kind is. absurd (none_some kind is);
    kept = λ n. false;
    height = λ n. 0;
    who = λ n. Once (record { id = 0; frame = 0 });
    ranked = record {
      standing_are = λ n kind is. absurd (none_some kind is);
      closed = λ n k on. absurd (false≢true on);
      falls = λ n on. absurd (false≢true on);
      shares = λ n k f below on. absurd (false≢true on);
      named = λ n on. absurd (false≢true on);
      stand = λ x on. absurd (none_linked x on);
      linking = λ w is. absurd (no_work w is);
    };
    behind = record { once = tt; were = tt; next = λ k part. absurd (over_not_periodic part) };
    active = λ n on. absurd (false≢true on);
    were_active = tt;
    goes = record {
      ahead = λ n. false;
      are_kept = λ n on. absurd (false≢true on);
      closed = λ n k on. absurd (false≢true on);
      next = λ k part. absurd (over_not_periodic part);
      first = λ x is. absurd (no_work x is);
      old = λ e f n on. absurd (false≢true on);
    };
    alone = λ n on. absurd (false≢true on);
    none = record {
      were_met = λ n led. absurd (none_in_chain s fit bytes n led);
      each = λ n led. absurd
          (none_in_chain s fit bytes n led);
    };
    framed = λ n on. absurd (false≢true on);
    were_framed = tt;
  };
}
