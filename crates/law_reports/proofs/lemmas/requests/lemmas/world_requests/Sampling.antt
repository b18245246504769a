-- The two requests of the sample are transfers of its driver.
use Rattle.std.proofs.Common.{◌≡◌, ◌≢◌, ℕ, suc, ◌<◌, Bool, true, false, [], replicate, Some, None, refl, sym, ap, ◌∙◌, arith}
use Rattle.std.proofs.lemmas.Bool.{eq-eqb, eqb-true, false≢true}
use Rattle.qh_qtd.specs.declared.qtd.Qtd.{Qtd}
use Rattle.law_structures.specs.lent_structures.Structures.{Structure, QueueHead, Element, Buffer, Structures, StructureSets, put}
use Rattle.law_structures.proofs.lemmas.lent_structures.Names.{put_beside}
use Rattle.law_request.specs.Samples.{get_device, get_configuration}
use Rattle.law_devices.specs.ring_requests.Samples.{queue, setup, read, status, first_status, second_setup, second_read, pages_at, parts, both_parts, nothing, begun, after, then_begun, is_only, is_both}
use Rattle.claims_world.specs.Requests.{endpoint_of, no_windows}
use Rattle.law_reports.specs.requests.world_requests.Recording.{IsNoSetup, AreTransfers, IsRecorded}
use Rattle.law_reports.specs.requests.world_requests.Samples.{control_endpoint, two_requests}
use Rattle.law_reports.proofs.lemmas.requests.lemmas.world_requests.Telling.{recorded_at_first}

of_endpoint : (released : Bool) (i : ℕ) → i < 2 → endpoint_of (two_requests released) i ≡ Some 0
of_endpoint released (suc (suc i)) few = absurd (omega (arith, few))
of_endpoint released _ few = refl

-- another queue head has nothing
record IsBeside (parts : StructureSets) : Type 0 where
  none : (k : ℕ) → k ≢ 32 → parts k ≡ nothing k

more : (parts : StructureSets) (a : ℕ) (s : Structure) → IsBeside parts → IsBeside (put parts 32 a s)
more parts a s b = record { none = λ k differs. put_beside parts 32 a s k differs ∙ b.none k differs }

at_first : IsBeside nothing
at_first = record { none = λ k differs. refl }

beside_first : IsBeside parts
beside_first = more _ 4096 (Buffer (pages_at 1) 0 (replicate 18 0)) (more _ 0 (Buffer (pages_at 0) 0 get_device.setup) (more _ 128 (Element status) (more _ 96 (Element read) (more _ 64 (Element setup) (more _ 32 (QueueHead queue) at_first)))))

beside : IsBeside both_parts
beside = more _ 12288 (Buffer (pages_at 3) 0 (replicate 9 0)) (more _ 8192 (Buffer (pages_at 2) 0 get_configuration.setup) (more _ 224 (Element status) (more _ 192 (Element second_read) (more _ 160 (Element second_setup) (more _ 128 (Element first_status) beside_first)))))

nothing_beside : (k : ℕ) → k ≢ 32 → both_parts k ≡ nothing k
nothing_beside k differs = beside.none k differs

none_some : (t : Structure) → None ≡ Some t → ⊥
none_some t same = cc

not_there : (released : Bool) (k a : ℕ) (t : Qtd) → is_only k ≡ false → both_parts k a ≡ Some (Element t) → IsNoSetup (two_requests released) 0 a
not_there released k a t off here =
    absurd (none_some (Element t) (sym (ap (λ (part : Structures). part a) (nothing_beside k (λ same. false≢true (sym off ∙ eq-eqb k 32 same)))) ∙ here))

only_one : (n k : ℕ) → is_only n ≡ true → is_only k ≡ true → n ≡ k
only_one n k one other = eqb-true n 32 one ∙ sym (eqb-true k 32 other)

pub first_transfers : AreTransfers (two_requests false) is_only is_both (λ n. begun) both_parts (λ n. 0) (λ n i. i)
first_transfers = record {
  named = λ n on. record { own = control_endpoint; here = refl; address = refl; number = refl };
  apart = λ n k one other same. only_one n k one other;
  are = λ n i on few. of_endpoint false i few;
  own = λ n i k on few less same. same;
  setup = λ n on. refl;
  data_at = λ n on. refl;
  status = λ n on. refl;
  others = λ n k a t on off here. not_there false k a t off here;
}

pub second_transfers : AreTransfers (two_requests true) is_only is_both (λ n. after then_begun) both_parts (λ n. 0) (λ n i. i)
second_transfers = record {
  named = λ n on. record { own = control_endpoint; here = refl; address = refl; number = refl };
  apart = λ n k one other same. only_one n k one other;
  are = λ n i on few. of_endpoint true i few;
  own = λ n i k on few less same. same;
  setup = λ n on. refl;
  data_at = λ n on. refl;
  status = λ n on. refl;
  others = λ n k a t on off here. not_there true k a t off here;
}

pub none_recorded : IsRecorded is_only is_both (λ n. 0) (λ n i. i) (λ n. begun) no_windows
none_recorded n on = recorded_at_first (is_both n) (λ i. i) None (λ t. []) false _ (omega arith) (λ i few. refl)
