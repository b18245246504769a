-- What stands of the driver of worked rows.
use Rattle.std.proofs.Common.{◌≡◌, ℕ, zero, suc, ◌*◌, ◌==◌, Bool, true, false, if◌then◌else◌, slice_get, Option, Some, None, ap, sym, subst, ◌∙◌, inl, refl}
use Rattle.std.proofs.lemmas.Bool.{false≢true, eqb-true}
use Rattle.std.proofs.lemmas.Option.{same_Some}
use Rattle.drv_table.specs.declared.content.Endpoint.{Endpoint}
use Rattle.drv_table.specs.Words.{head_block, dummy_qtd}
use Rattle.law_structures.specs.lent_structures.Structures.{Structure, Element}
use Rattle.law_ring.specs.Told.{Endpoint as Told}
use Rattle.law_driver.specs.endpoint_lives.Lives.{may_meet}
use Rattle.law_driver_ring.specs.fed_queues.Places.{IsMet, IsLast}
use Rattle.law_world.specs.steps.endpoint_releases.Samples.{left_endpoint}
use Rattle.law_world.specs.steps.left_queues.Standing.{AllStand}
use Rattle.law_world.specs.steps.left_queues.Samples.{cleared_driver, only_end, head_alone, no_stream, as_addresses, none_out}

-- it has one endpoint, which is met no more
the_one : (e : ℕ) (x : Endpoint) → slice_get cleared_driver.endpoints e ≡ Some x → x ≡ left_endpoint
the_one zero x here = sym (same_Some left_endpoint x here)
the_one (suc e) x here = absurd (cc)

none_met : (e : ℕ) (x : Endpoint) → slice_get cleared_driver.endpoints e ≡ Some x → IsMet cleared_driver e x → ⊥
none_met e x here m = unlinked x (the_one e x here) e here m
  where
    unlinked : (z : Endpoint) → z ≡ left_endpoint → (k : ℕ) → slice_get cleared_driver.endpoints k ≡ Some z → IsMet cleared_driver k z → ⊥
    unlinked z is k there met = false≢true (ap (may_meet cleared_driver k) (sym is) ∙ met.near)

-- the inactive qTD is all that is told
end_alone : IsLast (as_addresses 32) (only_end 32) 96
end_alone b t found other = absurd (by (b == 96) refl)
  where
    by : (c : Bool) → (b == 96) ≡ c → ⊥
    by true is = other (eqb-true b 96 is)
    by false is = let none : ◌≡◌ {A = Option Structure} None (Some (Element t)) = sym (ap (λ (c : Bool). if c then Some (Element dummy_qtd) else None) is) ∙ found in cc

pub cleared_stands : (ends : ℕ → Told) → AllStand cleared_driver head_alone no_stream ends only_end as_addresses none_out
cleared_stands ends = record {
  queues = record {
    met = record {
      head = refl;
      each = λ e x here m. absurd (none_met e x here m);
      only = λ n on. inl (eqb-true n (32 * head_block) on);
    };
    streams_are = record {
      each = λ e x here m. absurd (none_met e x here m);
      only = λ n on. absurd (false≢true on);
    };
    fed = record {
      dummies = λ e x here kept lent. subst (λ (z : Endpoint). only_end (32 * z.queue) (32 * z.dummy) ≡ Some (Element dummy_qtd)) (sym (the_one e x here)) refl;
      pieces = λ t i y x there. absurd (cc);
      publishes = λ b words is. absurd (cc);
    };
    last = record {
      dummies = λ e x here kept lent. subst (λ (z : Endpoint). IsLast (as_addresses (32 * z.queue)) (only_end (32 * z.queue)) (32 * z.dummy)) (sym (the_one e x here)) end_alone;
      taken = λ b words t y x is. absurd (cc);
      sorted = λ b words t y x is. absurd (cc);
    };
    out_are = λ e x here there. refl;
  };
  fronts = λ e x here m. absurd (none_met e x here m);
  tails = λ e x here m. absurd (none_met e x here m);
}
