-- What the stream of an OUT endpoint is made of.
use Rattle.std.proofs.Common.{◌≡◌, ◌≢◌, ℕ, ◌==◌, Bool, true, false, List, [], ◌∷◌, ◌++◌, Option, ap, refl, sym, subst, ◌∙◌, inl, inr}
use Rattle.std.specs.List.{concat}
use Rattle.std.proofs.lemmas.Bool.{eqb-true, false≢true}
use Rattle.std.proofs.lemmas.List.{append_assoc, append-nil}
use Rattle.law_controller.proofs.Common.{heads_stay, elements_stay}
use Rattle.law_structures.specs.lent_structures.Structures.{Structures, StructureSets}
use Rattle.law_ring.specs.Hand.{Hand}
use Rattle.law_ring.specs.Told.{Endpoint, HasEndpoint}
use Rattle.law_ring.specs.Order.{IsOrdered}
use Rattle.law_ring.specs.Pipes.{AreEndpoints}
use Rattle.law_ring.specs.OutBus.{Taker}
use Rattle.law_ring.specs.OutPipes.{IsOutPipe}
use Rattle.law_ring.specs.OutPipeLaws.{IsBeside, IsOnlyEndpoint}
use Rattle.law_controller.specs.controlled_streams.Outs.{IsOutStream, Begins}
use Rattle.law_controller.proofs.lemmas.controlled_streams.Outs.{known_begins_taken}
use Rattle.law_ring.specs.Sparing.{SameHand}
use Rattle.law_ring.proofs.SparedSparing.{accounts_are_spared}
use Rattle.law_controller.specs.controlled_streams.Reported.{IsReported}
use Rattle.law_world.specs.steps.Outs.{IsAside, AreAside, HaveOutStreams}
use Rattle.law_world.specs.steps.Joining.{EachIsOnly, PipesAreStreams, HarvestedIsTaken}

-- ---- one queue head alone

pub at_one : (P : ℕ → Type 0) (n : ℕ) → P n → (k : ℕ) → (k == n) ≡ true → P k
at_one P n here k is = subst P (sym (eqb-true k n is)) here

-- ---- no other queue head sends to its endpoint

module _ (stream : ℕ → ℕ → Bool) (member outs : ℕ → Bool) (ends : ℕ → Endpoint) (parts : StructureSets) (e : AreEndpoints stream member outs ends) (named : (k : ℕ) → outs k ≡ true → HasEndpoint parts k (ends k)) (others : AreAside stream member outs ends parts) where
  aside_beside : (n k : ℕ) → outs n ≡ true → IsAside stream parts k (ends k) → IsBeside parts k (ends n)
  aside_beside n k on (has, inl none) = record {
    endpoint = ends k;
    named = has;
    apart = inl (λ addr ep. false≢true (sym none ∙ sym (ap (λ (i : ℕ). stream i (ends n).ep) addr ∙ ap (stream (ends k).addr) ep) ∙ e.on n on));
  }
  aside_beside n k on (has, inr sends) = record { endpoint = ends k; named = has; apart = inr sends }

  beside : (n k : ℕ) → outs n ≡ true → member k ≡ true → k ≢ n → (b : Bool) → outs k ≡ b → IsBeside parts k (ends n)
  beside n k on met differs true also = record { endpoint = ends k; named = named k also; apart = inl (λ addr ep. differs (sym (e.apart n k on also addr ep))) }
  beside n k on met differs false off = aside_beside n k on (others k met off)

  pub only_at : (n : ℕ) → outs n ≡ true → IsOnlyEndpoint stream member parts n (ends n)
  only_at n on = record { on = e.members n on; streamed = e.on n on; high = e.high n on; others = λ k met differs. beside n k on met differs (outs k) refl }

pub each_only : {W : Type 0} (taker : W → ℕ → ℕ → Option Taker) → EachIsOnly taker
each_only taker stream member outs ends known parts hand wire n e k on = only_at stream member outs ends parts e (λ i also. (k.pipes i also).named) k.others n on

-- ---- both parts of a stream

-- these bytes are known to be taken, and they are those harvested and those still to be
pub record HasParts (o : Option Taker) (order : ℕ → ℕ) (out : List ℕ) (parts : StructureSets) (hand : Hand) (n : ℕ) (x : Endpoint) (harvested : List ℕ) : Type 0 where
  pub known : List ℕ
  pub reported : IsReported order out hand parts n (known ∷ []) harvested
  pub pipe : IsOutPipe o known parts hand n x

pub reported_in : (stream : ℕ → ℕ → Bool) (o : Option Taker) (member : ℕ → Bool) (order : ℕ → ℕ) (out : List ℕ) (parts : StructureSets) (hand : Hand) (n : ℕ) (x : Endpoint) (harvested : List ℕ)
    → (k : IsOutStream stream o member order out parts hand n x harvested) → IsReported order out hand parts n ((harvested ++ k.told) ∷ []) harvested
reported_in stream o member order out parts hand n x harvested k = record { place = k.place; told = k.told; accounts = k.accounts; sum = sym (append-nil (harvested ++ k.told)) }

pub parts_in : (stream : ℕ → ℕ → Bool) (o : Option Taker) (member : ℕ → Bool) (order : ℕ → ℕ) (out : List ℕ) (parts : StructureSets) (hand : Hand) (n : ℕ) (x : Endpoint) (harvested : List ℕ)
    → IsOutStream stream o member order out parts hand n x harvested → HasParts o order out parts hand n x harvested
parts_in stream o member order out parts hand n x harvested k = record { known = harvested ++ k.told; reported = reported_in stream o member order out parts hand n x harvested k; pipe = k.pipe }

joined : (stream : ℕ → ℕ → Bool) (o : Option Taker) (member : ℕ → Bool) (order : ℕ → ℕ) (out : List ℕ) (parts : StructureSets) (hand : Hand) (n : ℕ) (x : Endpoint) (harvested : List ℕ) (acc : List (List ℕ))
    → IsOnlyEndpoint stream member parts n x → IsReported order out hand parts n acc harvested → IsOutPipe o (concat acc) parts hand n x → IsOutStream stream o member order out parts hand n x harvested
joined stream o member order out parts hand n x harvested acc only r pipe = record {
  only = only;
  place = r.place;
  told = r.told;
  accounts = r.accounts;
  pipe = subst (λ (xs : List ℕ). IsOutPipe o xs parts hand n x) (sym r.sum) pipe;
}

pub joined_parts : (stream : ℕ → ℕ → Bool) (o : Option Taker) (member : ℕ → Bool) (order : ℕ → ℕ) (out : List ℕ) (parts : StructureSets) (hand : Hand) (n : ℕ) (x : Endpoint) (harvested : List ℕ)
    → IsOnlyEndpoint stream member parts n x → HasParts o order out parts hand n x harvested → IsOutStream stream o member order out parts hand n x harvested
joined_parts stream o member order out parts hand n x harvested only k =
    joined stream o member order out parts hand n x harvested (k.known ∷ []) only k.reported (subst (λ (xs : List ℕ). IsOutPipe o xs parts hand n x) (sym (append-nil k.known)) k.pipe)

-- ---- all of them

pub streams_all : {W : Type 0} (taker : W → ℕ → ℕ → Option Taker) (stream : ℕ → ℕ → Bool) (member outs : ℕ → Bool) (ends : ℕ → Endpoint) (order : ℕ → ℕ → ℕ) (out harvested : ℕ → List ℕ) (parts : StructureSets) (hand : Hand) (wire : W)
    → AreEndpoints stream member outs ends → ((n : ℕ) → outs n ≡ true → HasParts (taker wire (ends n).addr (ends n).ep) (order n) (out n) parts hand n (ends n) (harvested n)) → AreAside stream member outs ends parts
    → HaveOutStreams stream taker member outs ends order out harvested parts hand wire
streams_all taker stream member outs ends order out harvested parts hand wire e each others = record {
  streams = λ n on.
      joined_parts stream (taker wire (ends n).addr (ends n).ep) member (order n) (out n) parts hand n (ends n) (harvested n)
      (only_at stream member outs ends parts e (λ i also. (each i also).pipe.named) others n on) (each n on);
  others = others;
}

pub pipes_are_streams : {W : Type 0} (taker : W → ℕ → ℕ → Option Taker) → PipesAreStreams taker
pipes_are_streams taker stream member outs ends order out harvested acc parts hand wire e right k = record {
  streams = λ n on.
      joined stream (taker wire (ends n).addr (ends n).ep) member (order n) (out n) parts hand n (ends n) (harvested n) (acc n)
      (only_at stream member outs ends parts e (λ i also. (k.pipes i also).named) k.others n on) (right n on) (k.pipes n on);
  others = k.others;
}

-- ---- what was taken

pub harvested_taken : {W : Type 0} (taker : W → ℕ → ℕ → Option Taker) → HarvestedIsTaken taker
harvested_taken taker stream member outs ends order out harvested parts hand wire n k on =
    let was = k.streams n on in
    let b : Begins (taker wire (ends n).addr (ends n).ep) (harvested n ++ was.told) = known_begins_taken (taker wire (ends n).addr (ends n).ep) (harvested n ++ was.told) parts hand n (ends n) was.pipe in
    record { taker = b.taker; is = b.is; unheard = was.told ++ b.unheard; taken = b.taken ∙ append_assoc (harvested n) was.told b.unheard }

-- ---- structures that stay

pub reported_stays : (order : ℕ → ℕ) (out : List ℕ) (hand later : Hand) (parts now : StructureSets) (k : ℕ) (acc : List (List ℕ)) (harvested : List ℕ) → SameHand hand later → now k ≡ parts k → IsReported order out hand parts k acc harvested → IsReported order out later now k acc harvested
reported_stays order out hand later parts now k acc harvested hands same r = record {
  place = r.place;
  told = r.told;
  accounts = accounts_are_spared order order r.place r.place out hand later parts now k r.told hands (heads_stay parts now k same) (λ e among. elements_stay parts now k e same)
      (subst (IsOrdered order r.place k) (sym same) r.accounts.ordered) r.accounts.sorted
      (λ a t among here from. r.accounts.published a t among (ap (λ (part : Structures). part a) (sym same) ∙ here) from)
      (λ a t here on. r.accounts.complete a t (ap (λ (part : Structures). part a) (sym same) ∙ here) on) r.accounts;
  sum = r.sum;
}
