-- The streams of OUT endpoints beside one more queue head.
use Rattle.std.proofs.Common.{◌≡◌, ◌≢◌, ℕ, Bool, true, false, List, [], ◌∷◌, Option, ap, refl, sym, subst, ◌∙◌, ⊎_elim, inr}
use Rattle.std.specs.List.{concat}
use Rattle.std.proofs.lemmas.Bool.{cases_eq, false≢true}
use Rattle.qh_qtd.specs.declared.queue_head.Qh.{Qh}
use Rattle.law_structures.specs.lent_structures.Structures.{StructureSets}
use Rattle.law_ring.specs.Hand.{Hand}
use Rattle.law_ring.specs.Told.{HasToggle, Endpoint, HasEndpoint}
use Rattle.law_ring.specs.OutBus.{Taker}
use Rattle.law_ring.specs.OutPipes.{IsOutPipe, level}
use Rattle.law_controller.specs.controlled_streams.Reported.{IsReported}
use Rattle.law_controller.specs.controlled_streams.Opened.{with_stream, with_end, with_none, IsBeginning, IsOneMore}
use Rattle.law_controller.proofs.lemmas.controlled_streams.Beginning.{stream_here, stream_old, stream_beside, end_here, end_beside, list_here, list_beside, reports_with_one}
use Rattle.law_world.specs.steps.Outs.{IsAside, AreAside, IsUntaken}
use Rattle.law_world.specs.steps.Opens.{IsOneMoreHead, OutPipesWithOne, OutsWithOne, UntakenLessOne, UntakenWithAnother, OutPipesWithAnother, OutsWithAnother}
use Rattle.law_world.proofs.lemmas.steps.Joining.{HasParts, parts_in, streams_all, reported_stays}
use Rattle.law_world.proofs.lemmas.steps.Spared.{pipe_stays}

-- both sides of its pipe agree, and nothing is known to be taken
begin_pipe : (o : Option Taker) (later : Hand) (now : StructureSets) (n : ℕ) (x : Endpoint) (q : Qh) → IsBeginning (now n) n q → HasEndpoint now n x → HasToggle later now n false → IsUntaken o → IsOutPipe o [] now later n x
begin_pipe o later now n x q begins named expects u = record {
  named = named;
  outs = λ a t here on. absurd (false≢true (sym (begins.none a t here) ∙ on));
  toggle = false;
  expects = expects;
  taker = u.taker;
  is = u.is;
  agrees = level u.first u.none;
}

-- a queue head without a stream is another, and had none
none_beside : (outs : ℕ → Bool) (n k : ℕ) → with_stream outs n k ≡ false → (k ≢ n) × (outs k ≡ false)
none_beside outs n k off = (λ same. false≢true (sym off ∙ ap (with_stream outs n) same ∙ stream_here outs n), by_test (outs k) refl)
  where
    by_test : (b : Bool) → outs k ≡ b → outs k ≡ false
    by_test true on = absurd (false≢true (sym off ∙ stream_old outs n k on))
    by_test false none = none

-- a queue head is the new one or an old one
each_head : (outs : ℕ → Bool) (ends : ℕ → Endpoint) (n : ℕ) (x : Endpoint) (P : ℕ → Endpoint → Type 0) → P n x → ((k : ℕ) → k ≢ n → outs k ≡ true → P k (ends k)) → (k : ℕ) → with_stream outs n k ≡ true → P k (with_end ends n x k)
each_head outs ends n x P new old k on =
    ⊎_elim (λ (same : k ≡ n). subst (λ (i : ℕ). P i (with_end ends n x i)) (sym same) (subst (P n) (sym (end_here ends n x)) new))
    (λ (differs : k ≢ n). subst (P k) (sym (end_beside ends n x k differs)) (old k differs (stream_beside outs n k differs on))) (cases_eq k n)

old_head : (outs : ℕ → Bool) (ends : ℕ → Endpoint) (n : ℕ) (x : Endpoint) (P : ℕ → Endpoint → Type 0) → outs n ≡ false → ((k : ℕ) → k ≢ n → outs k ≡ true → P k (ends k)) → (k : ℕ) → outs k ≡ true → P k (with_end ends n x k)
old_head outs ends n x P none old k on =
    let differs : k ≢ n = λ same. false≢true (sym none ∙ ap outs (sym same) ∙ on) in
    subst (P k) (sym (end_beside ends n x k differs)) (old k differs on)

module _ {W : Type 0} (taker : W → ℕ → ℕ → Option Taker) (stream : ℕ → ℕ → Bool) (wider outs : ℕ → Bool) (ends : ℕ → Endpoint) (hand later : Hand) (parts now : StructureSets) (wire : W) (n : ℕ) (x : Endpoint) (h : IsOneMoreHead stream wider outs ends hand later parts now n x) where
  old_pipe : (k : ℕ) (known : List ℕ) → outs k ≡ true → IsOutPipe (taker wire (ends k).addr (ends k).ep) known parts hand k (ends k) → IsOutPipe (taker wire (ends k).addr (ends k).ep) known now later k (ends k)
  old_pipe k known on pipe = pipe_stays hand later parts now k (ends k) (taker wire (ends k).addr (ends k).ep) known h.more.hands (h.unmoved k on) (h.more.stay k on) pipe

  -- ---- those without a stream

  others_with_one : AreAside stream wider (with_stream outs n) (with_end ends n x) now
  others_with_one k met off =
      let both : (k ≢ n) × (outs k ≡ false) = none_beside outs n k off in
      subst (IsAside stream now k) (sym (end_beside ends n x k both.0)) (h.others k met both.0 both.1)

  others_with_another : AreAside stream wider outs (with_end ends n x) now
  others_with_another k met off =
      ⊎_elim
      (λ (same : k ≡ n).
      subst (λ (i : ℕ). IsAside stream now i (with_end ends n x i)) (sym same)
      (subst (IsAside stream now n) (sym (end_here ends n x)) (h.more.named, inr (λ a t here on zero. false≢true (sym (h.more.begins.none a t here) ∙ on)))))
      (λ (differs : k ≢ n). subst (IsAside stream now k) (sym (end_beside ends n x k differs)) (h.others k met differs off)) (cases_eq k n)

  -- ---- the pipes

  module _ (known : ℕ → List ℕ) (was : (k : ℕ) → outs k ≡ true → IsOutPipe (taker wire (ends k).addr (ends k).ep) (known k) parts hand k (ends k)) where
    abbrev IsPiped : ℕ → Endpoint → Type 0
    IsPiped k y = IsOutPipe (taker wire y.addr y.ep) (with_none known n k) now later k y

    pipe_old : (k : ℕ) → k ≢ n → outs k ≡ true → IsPiped k (ends k)
    pipe_old k differs on = subst (λ (xs : List ℕ). IsOutPipe (taker wire (ends k).addr (ends k).ep) xs now later k (ends k)) (sym (list_beside known n k differs)) (old_pipe k (known k) on (was k on))

    pipe_new : x.dtc ≡ false → IsUntaken (taker wire x.addr x.ep) → IsPiped n x
    pipe_new own u = subst (λ (xs : List ℕ). IsOutPipe (taker wire x.addr x.ep) xs now later n x) (sym (list_here known n)) (begin_pipe (taker wire x.addr x.ep) later now n x h.more.queue h.more.begins h.more.named (h.more.expects own) u)

    pipes_with_one : x.dtc ≡ false → IsUntaken (taker wire x.addr x.ep) → (k : ℕ) → with_stream outs n k ≡ true → IsPiped k (with_end ends n x k)
    pipes_with_one own u = each_head outs ends n x IsPiped (pipe_new own u) pipe_old

    pipes_with_another : (k : ℕ) → outs k ≡ true → IsPiped k (with_end ends n x k)
    pipes_with_another = old_head outs ends n x IsPiped h.more.new pipe_old

  -- ---- the streams

  module _ (order : ℕ → ℕ → ℕ) (out harvested : ℕ → List ℕ) (was : (k : ℕ) → outs k ≡ true → HasParts (taker wire (ends k).addr (ends k).ep) (order k) (out k) parts hand k (ends k) (harvested k)) where
    abbrev HasNow : ℕ → Endpoint → Type 0
    HasNow k y = HasParts (taker wire y.addr y.ep) (order k) (with_none out n k) now later k y (with_none harvested n k)

    parts_old : (k : ℕ) → k ≢ n → outs k ≡ true → HasNow k (ends k)
    parts_old k differs on =
        let p = was k on in
        record {
          known = p.known;
          reported = subst (λ (xs : List ℕ). IsReported (order k) xs later now k (p.known ∷ []) (with_none harvested n k)) (sym (list_beside out n k differs))
              (subst (λ (xs : List ℕ). IsReported (order k) (out k) later now k (p.known ∷ []) xs) (sym (list_beside harvested n k differs))
              (reported_stays (order k) (out k) hand later parts now k (p.known ∷ []) (harvested k) h.more.hands (h.more.stay k on) p.reported));
          pipe = old_pipe k p.known on p.pipe;
        }

    parts_new : x.dtc ≡ false → IsUntaken (taker wire x.addr x.ep) → HasNow n x
    parts_new own u = record {
      known = [];
      reported = begun;
      pipe = begin_pipe (taker wire x.addr x.ep) later now n x h.more.queue h.more.begins h.more.named (h.more.expects own) u;
    }
      where
        none_more : IsOneMore (λ k. false) hand later parts now n x
        none_more = record {
          hands = h.more.hands;
          stay = λ k on. absurd (false≢true on);
          new = refl;
          queue = h.more.queue;
          begins = h.more.begins;
          named = h.more.named;
          expects = h.more.expects;
        }

        begun : IsReported (order n) (with_none out n n) later now n ([] ∷ []) (with_none harvested n n)
        begun =
            let r = reports_with_one (λ k. false) order out hand later parts now (λ k. []) harvested n x none_more (λ k on. absurd (false≢true on)) n (stream_here (λ k. false) n) in
            record { place = r.place; told = r.told; accounts = r.accounts; sum = r.sum ∙ ap concat (list_here {A = List ℕ} (λ k. []) n) }

    parts_with_one : x.dtc ≡ false → IsUntaken (taker wire x.addr x.ep) → (k : ℕ) → with_stream outs n k ≡ true → HasNow k (with_end ends n x k)
    parts_with_one own u = each_head outs ends n x HasNow (parts_new own u) parts_old

    parts_with_another : (k : ℕ) → outs k ≡ true → HasNow k (with_end ends n x k)
    parts_with_another = old_head outs ends n x HasNow h.more.new parts_old

-- ---- the laws

pub out_pipes_with_one : {W : Type 0} (taker : W → ℕ → ℕ → Option Taker) → OutPipesWithOne taker
out_pipes_with_one taker stream member wider outs ends known hand later parts now wire n x h own u k = record {
  pipes = pipes_with_one taker stream wider outs ends hand later parts now wire n x h known k.pipes own u;
  others = others_with_one taker stream wider outs ends hand later parts now wire n x h;
}

pub outs_with_one : {W : Type 0} (taker : W → ℕ → ℕ → Option Taker) → OutsWithOne taker
outs_with_one taker stream member wider outs ends order out harvested hand later parts now wire n x h own u ends_are k =
    streams_all taker stream wider (with_stream outs n) (with_end ends n x) order (with_none out n) (with_none harvested n) now later wire ends_are
    (parts_with_one taker stream wider outs ends hand later parts now wire n x h order out harvested (λ i on. parts_in stream (taker wire (ends i).addr (ends i).ep) member (order i) (out i) parts hand i (ends i) (harvested i) (k.streams i on)) own u)
    (others_with_one taker stream wider outs ends hand later parts now wire n x h)

pub out_pipes_with_another : {W : Type 0} (taker : W → ℕ → ℕ → Option Taker) → OutPipesWithAnother taker
out_pipes_with_another taker stream member wider outs ends known hand later parts now wire n x h k = record {
  pipes = pipes_with_another taker stream wider outs ends hand later parts now wire n x h known k.pipes;
  others = others_with_another taker stream wider outs ends hand later parts now wire n x h;
}

pub outs_with_another : {W : Type 0} (taker : W → ℕ → ℕ → Option Taker) → OutsWithAnother taker
outs_with_another taker stream member wider outs ends order out harvested hand later parts now wire n x h ends_are k =
    streams_all taker stream wider outs (with_end ends n x) order (with_none out n) (with_none harvested n) now later wire ends_are
    (parts_with_another taker stream wider outs ends hand later parts now wire n x h order out harvested (λ i on. parts_in stream (taker wire (ends i).addr (ends i).ep) member (order i) (out i) parts hand i (ends i) (harvested i) (k.streams i on)))
    (others_with_another taker stream wider outs ends hand later parts now wire n x h)

-- ---- endpoints

old_end : (outs : ℕ → Bool) (ends : ℕ → Endpoint) (n : ℕ) (x : Endpoint) → outs n ≡ false → (k : ℕ) → outs k ≡ true → with_end ends n x k ≡ ends k
old_end outs ends n x none k on = end_beside ends n x k (λ same. false≢true (sym none ∙ ap outs (sym same) ∙ on))

pub untaken_less_one : {W : Type 0} (taker : W → ℕ → ℕ → Option Taker) → UntakenLessOne taker
untaken_less_one taker stream outs ends wire n x none k addr ep on unopened =
    k addr ep on (λ i one a e.
    let same = old_end outs ends n x none i one in
    unopened i (stream_old outs n i one) (ap (λ (y : Endpoint). y.addr) same ∙ a) (ap (λ (y : Endpoint). y.ep) same ∙ e))

pub untaken_with_another : {W : Type 0} (taker : W → ℕ → ℕ → Option Taker) → UntakenWithAnother taker
untaken_with_another taker stream outs ends wire n x none k addr ep on unopened =
    k addr ep on (λ i one a e.
    let same = old_end outs ends n x none i one in
    unopened i one (ap (λ (y : Endpoint). y.addr) same ∙ a) (ap (λ (y : Endpoint). y.ep) same ∙ e))
