-- The other queue heads are told as before.
use Rattle.std.proofs.Common.{◌≡◌, ◌≢◌, ℕ, Bool, true, false, List, ◌++◌, Option, ap, sym, subst, ◌∙◌, ⊎_elim, inl, inr}
use Rattle.law_common.proofs.Numbers.{streamed_apart}
use Rattle.law_ring.proofs.Common.{endpoint_kept, those_here}
use Rattle.law_controller.proofs.Common.{same_hand, heads_stay, elements_stay}
use Rattle.law_structures.specs.lent_structures.Structures.{Structures, StructureSets}
use Rattle.law_ring.specs.Hand.{Hand}
use Rattle.law_ring.specs.Told.{Endpoint}
use Rattle.law_ring.specs.Bus.{Sender}
use Rattle.law_ring.specs.Pipes.{IsIn, IsNotIn, IsPipe, IsElsewhere}
use Rattle.law_ring.specs.Order.{IsOrdered, Accounts}
use Rattle.law_ring.proofs.SparedSparing.{spared_has_toggle, accounts_are_spared}
use Rattle.law_ring.specs.OutBus.{Taker}
use Rattle.law_ring.specs.OutPipeLaws.{SendsNone, IsBeside, IsOnlyEndpoint}
use Rattle.law_controller.specs.controlled_streams.Outs.{IsOutStream}
use Rattle.law_world.specs.steps.Outs.{IsAside, AreAside}
use Rattle.law_world.proofs.lemmas.steps.Joining.{reported_stays}
use Rattle.law_world.proofs.lemmas.steps.Spared.{pipe_stays}
use Rattle.law_world.specs.steps.endpoint_releases.Released.{without_queue}
use Rattle.law_world.specs.steps.endpoint_releases.Beside.{QueueIsGone, PipesStayBeside, OutPipesStayBeside, OutsStayBeside, ReportsStayBeside}
use Rattle.law_world.proofs.lemmas.steps.lemmas.endpoint_releases.Owning.{queue_beside}

pub queue_is_gone : QueueIsGone
queue_is_gone parts n = (λ a. ap (λ (part : Structures). part a) (those_here parts n (λ b. true)), queue_beside parts n)

-- ---- IN pipes

in_stays : (packets : List (List ℕ)) (o : Option Sender) (acc : List (List ℕ)) (parts now : StructureSets) (hand : Hand) (k : ℕ) (x : Endpoint) → now k ≡ parts k → IsPipe packets o acc parts hand k x → IsPipe packets o acc now hand k x
in_stays packets o acc parts now hand k x same p = record {
  named = endpoint_kept parts now k x same p.named;
  ins = subst IsIn (sym same) p.ins;
  toggle = p.toggle;
  expects = spared_has_toggle hand hand parts now k p.toggle (same_hand hand) (heads_stay parts now k same) p.expects;
  sender = p.sender;
  is = p.is;
  half = p.half;
}

elsewhere_stays : (stream : ℕ → ℕ → Bool) (parts now : StructureSets) (k : ℕ) (x : Endpoint) → now k ≡ parts k → IsElsewhere stream parts k x → IsElsewhere stream now k x
elsewhere_stays stream parts now k x same was = (
  endpoint_kept parts now k x same was.0,
  ⊎_elim (λ (off : stream x.addr x.ep ≡ false). inl off)
      (λ (none : IsNotIn (parts k)). inr (subst IsNotIn (sym same) none)) was.1,
)

pub pipes_stay : {W : Type 0} (sender : W → ℕ → ℕ → Option Sender) → PipesStayBeside sender
pipes_stay sender stream packets member streams ends acc parts hand wire n off none k = record {
  pipes = λ i on.
      in_stays (packets (ends i).addr (ends i).ep) (sender wire (ends i).addr (ends i).ep) (acc i) parts (without_queue parts n) hand i (ends i) (queue_beside parts n i (streamed_apart streams n i none on))
      (k.pipes i on);
  others = λ i met aside. elsewhere_stays stream parts (without_queue parts n) i (ends i) (queue_beside parts n i (streamed_apart member n i off met)) (k.others i met aside);
}

-- ---- OUT pipes

aside_stays : (stream : ℕ → ℕ → Bool) (parts now : StructureSets) (k : ℕ) (x : Endpoint) → now k ≡ parts k → IsAside stream parts k x → IsAside stream now k x
aside_stays stream parts now k x same was = (
  endpoint_kept parts now k x same was.0,
  ⊎_elim (λ (off : stream x.addr x.ep ≡ false). inl off)
      (λ (none : SendsNone (parts k)). inr (subst SendsNone (sym same) none)) was.1,
)

asides_stay : (stream : ℕ → ℕ → Bool) (member outs : ℕ → Bool) (ends : ℕ → Endpoint) (parts : StructureSets) (n : ℕ) → member n ≡ false → AreAside stream member outs ends parts → AreAside stream member outs ends (without_queue parts n)
asides_stay stream member outs ends parts n off all i met none = aside_stays stream parts (without_queue parts n) i (ends i) (queue_beside parts n i (streamed_apart member n i off met)) (all i met none)

pub out_pipes_stay : {W : Type 0} (taker : W → ℕ → ℕ → Option Taker) → OutPipesStayBeside taker
out_pipes_stay taker stream member outs ends known parts hand wire n off none k = record {
  pipes = λ i on.
      pipe_stays hand hand parts (without_queue parts n) i (ends i) (taker wire (ends i).addr (ends i).ep) (known i) (same_hand hand) (λ un. un) (queue_beside parts n i (streamed_apart outs n i none on))
      (k.pipes i on);
  others = asides_stay stream member outs ends parts n off k.others;
}

-- ---- streams

beside_stays : (parts now : StructureSets) (k : ℕ) (x : Endpoint) → now k ≡ parts k → IsBeside parts k x → IsBeside now k x
beside_stays parts now k x same was = record {
  endpoint = was.endpoint;
  named = endpoint_kept parts now k was.endpoint same was.named;
  apart = ⊎_elim (λ (apart : x.addr ≡ was.endpoint.addr → x.ep ≡ was.endpoint.ep → ⊥). inl apart) (λ (none : SendsNone (parts k)). inr (subst SendsNone (sym same) none)) was.apart;
}

only_stays : (stream : ℕ → ℕ → Bool) (member : ℕ → Bool) (parts : StructureSets) (n k : ℕ) (x : Endpoint) → member n ≡ false → IsOnlyEndpoint stream member parts k x → IsOnlyEndpoint stream member (without_queue parts n) k x
only_stays stream member parts n k x off was = record {
  on = was.on;
  streamed = was.streamed;
  high = was.high;
  others = λ i met differs. beside_stays parts (without_queue parts n) i x (queue_beside parts n i (streamed_apart member n i off met)) (was.others i met differs);
}

accounts_stay : (order : ℕ → ℕ) (place : ℕ) (out : List ℕ) (hand : Hand) (parts now : StructureSets) (k : ℕ) (told : List ℕ) → now k ≡ parts k → Accounts order place out hand parts k told → Accounts order place out hand now k told
accounts_stay order place out hand parts now k told same was = accounts_are_spared order order place place out hand hand parts now k told (same_hand hand) (heads_stay parts now k same) (λ e among. elements_stay parts now k e same)
    (subst (IsOrdered order place k) (sym same) was.ordered) was.sorted
    (λ a t among here from. was.published a t among (ap (λ (part : Structures). part a) (sym same) ∙ here) from)
    (λ a t here on. was.complete a t (ap (λ (part : Structures). part a) (sym same) ∙ here) on) was

stream_stays : (stream : ℕ → ℕ → Bool) (o : Option Taker) (member : ℕ → Bool) (order : ℕ → ℕ) (out : List ℕ) (parts : StructureSets) (hand : Hand) (n k : ℕ) (x : Endpoint) (harvested : List ℕ) → member n ≡ false → k ≢ n → IsOutStream stream o member order out parts hand k x harvested → IsOutStream stream o member order out (without_queue parts n) hand k x harvested
stream_stays stream o member order out parts hand n k x harvested off differs was =
    let same = queue_beside parts n k differs in
    record {
      only = only_stays stream member parts n k x off was.only;
      place = was.place;
      told = was.told;
      accounts = accounts_stay order was.place out hand parts (without_queue parts n) k was.told same was.accounts;
      pipe = pipe_stays hand hand parts (without_queue parts n) k x o (harvested ++ was.told) (same_hand hand) (λ un. un) same was.pipe;
    }

pub outs_stay : {W : Type 0} (taker : W → ℕ → ℕ → Option Taker) → OutsStayBeside taker
outs_stay taker stream member outs ends order out harvested parts hand wire n off none k = record {
  streams = λ i on.
      stream_stays stream (taker wire (ends i).addr (ends i).ep) member (order i) (out i) parts hand n i (ends i) (harvested i) off (streamed_apart outs n i none on) (k.streams i on);
  others = asides_stay stream member outs ends parts n off k.others;
}

pub reports_stay_beside : ReportsStayBeside
reports_stay_beside heads order out hand parts acc reported n off all k on =
    reported_stays (order k) (out k) hand hand parts (without_queue parts n) k (acc k) (reported k) (same_hand hand) (queue_beside parts n k (streamed_apart heads n k off on)) (all k on)
