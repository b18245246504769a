-- One stream more.
use Rattle.std.proofs.Common.{◌≡◌, ◌≢◌, ℕ, ◌==◌, ◌||◌, Bool, true, false, if◌then◌else◌, List, [], Option, ap, refl, sym, subst, ◌∙◌, ⊎_elim, inr, arith}
use Rattle.std.proofs.lemmas.Bool.{cases_eq, eq-eqb, false≢true}
use Rattle.law_controller.proofs.Common.{heads_stay, elements_stay}
use Rattle.law_common.proofs.Numbers.{streamed_apart, other_number}
use Rattle.link_words.specs.declared.kinds.QtdLink.{QtdLink}
use Rattle.link_words.specs.declared.kinds.QtdLink.TheVariants as qtd_links
use Rattle.link_words.specs.Links.{qtd_link_of}
use Rattle.qh_qtd.specs.declared.queue_head.Qh.{Qh}
use Rattle.law_structures.specs.lent_structures.Structures.{Structures, StructureSets}
use Rattle.law_structures.proofs.lemmas.lent_structures.Altering.{found_queue}
use Rattle.law_ring.specs.Hand.{Hand}
use Rattle.law_ring.specs.Told.{Endpoint, HasEndpoint, HasToggle}
use Rattle.law_ring.specs.Order.{IsOrdered, none_out}
use Rattle.law_ring.specs.Sparing.{SameHand}
use Rattle.law_ring.proofs.SparedSparing.{spared_has_toggle, spared_endpoint, accounts_are_spared}
use Rattle.law_pipe.specs.Pipe.{PipeAgrees}
use Rattle.law_pipe.proofs.Agreement.{opening_agrees}
use Rattle.law_ring.specs.Bus.{Sender}
use Rattle.law_ring.specs.Pipes.{IsIn, IsPipe, IsElsewhere}
use Rattle.law_controller.specs.controlled_streams.Reported.{IsReported}
use Rattle.law_controller.specs.controlled_streams.Unopened.{IsUntouched}
use Rattle.law_controller.specs.controlled_streams.Opened.{with_stream, with_end, with_none, IsBeginning, EndsWithOne, PipesWithOne, ReportsWithOne, UnopenedLessOne, EndsWithOther, PipesWithOther, ReportsWithOther, UnopenedWithOther}

-- ---- one more

pub stream_here : (streams : ℕ → Bool) (n : ℕ) → with_stream streams n n ≡ true
stream_here streams n = ap (λ (b : Bool). b || streams n) (eq-eqb n n refl)

pub stream_old : (streams : ℕ → Bool) (n k : ℕ) → streams k ≡ true → with_stream streams n k ≡ true
stream_old streams n k on = by_test (k == n)
  where
    by_test : (b : Bool) → (b || streams k) ≡ true
    by_test true = refl
    by_test false = on

pub stream_beside : (streams : ℕ → Bool) (n k : ℕ) → k ≢ n → with_stream streams n k ≡ true → streams k ≡ true
stream_beside streams n k differs on = ap (λ (b : Bool). b || streams k) (sym (other_number k n differs)) ∙ on

none_beside : (streams : ℕ → Bool) (n k : ℕ) → with_stream streams n k ≡ false → (k ≢ n) × (streams k ≡ false)
none_beside streams n k off = (λ same. false≢true (sym off ∙ ap (with_stream streams n) same ∙ stream_here streams n), by_test (streams k) refl)
  where
    by_test : (b : Bool) → streams k ≡ b → streams k ≡ false
    by_test true on = absurd (false≢true (sym off ∙ stream_old streams n k on))
    by_test false none = none

pub end_here : (endpoint : ℕ → Endpoint) (n : ℕ) (x : Endpoint) → with_end endpoint n x n ≡ x
end_here endpoint n x = ap (λ (b : Bool). if b then x else endpoint n) (eq-eqb n n refl)

pub end_beside : (endpoint : ℕ → Endpoint) (n : ℕ) (x : Endpoint) (k : ℕ) → k ≢ n → with_end endpoint n x k ≡ endpoint k
end_beside endpoint n x k differs = ap (λ (b : Bool). if b then x else endpoint k) (other_number k n differs)

pub list_here : {A : Type 0} (lists : ℕ → List A) (n : ℕ) → with_none lists n n ≡ []
list_here {A} lists n = ap (λ (b : Bool). if b then [] else lists n) (eq-eqb n n refl)

pub list_beside : {A : Type 0} (lists : ℕ → List A) (n k : ℕ) → k ≢ n → with_none lists n k ≡ lists k
list_beside {A} lists n k differs = ap (λ (b : Bool). if b then [] else lists k) (other_number k n differs)

-- ---- the endpoints

-- by what it was, the new one or an old one
each_end : (streams : ℕ → Bool) (endpoint : ℕ → Endpoint) (n : ℕ) (x : Endpoint) (P : ℕ → Endpoint → Type 0) → P n x → ((k : ℕ) → k ≢ n → streams k ≡ true → P k (endpoint k)) → (k : ℕ) → with_stream streams n k ≡ true → P k (with_end endpoint n x k)
each_end streams endpoint n x P new old k on =
    ⊎_elim (λ (same : k ≡ n). subst (λ (i : ℕ). P i (with_end endpoint n x i)) (sym same) (subst (P n) (sym (end_here endpoint n x)) new))
    (λ (differs : k ≢ n). subst (P k) (sym (end_beside endpoint n x k differs)) (old k differs (stream_beside streams n k differs on))) (cases_eq k n)

pub ends_with_one : EndsWithOne
ends_with_one stream member wider streams endpoint n x more met on high unopened k = record {
  members = λ i streamed.
      ⊎_elim (λ (same : i ≡ n). ap wider same ∙ met) (λ (differs : i ≢ n). more i (k.members i (stream_beside streams n i differs streamed))) (cases_eq i n);
  on = each_end streams endpoint n x (λ (i : ℕ) (y : Endpoint). stream y.addr y.ep ≡ true) on (λ i differs streamed. k.on i streamed);
  high = each_end streams endpoint n x (λ (i : ℕ) (y : Endpoint). y.speed ≡ 2) high (λ i differs streamed. k.high i streamed);
  apart = λ i j first second.
      each_end streams endpoint n x (λ (l : ℕ) (y : Endpoint). y.addr ≡ (with_end endpoint n x j).addr → y.ep ≡ (with_end endpoint n x j).ep → l ≡ j)
      (each_end streams endpoint n x (λ (l : ℕ) (y : Endpoint). x.addr ≡ y.addr → x.ep ≡ y.ep → n ≡ l) (λ addr ep. refl)
      (λ l differs streamed addr ep. absurd (unopened l streamed (sym addr) (sym ep))) j second)
      (λ l differs streamed.
      each_end streams endpoint n x (λ (h : ℕ) (y : Endpoint). (endpoint l).addr ≡ y.addr → (endpoint l).ep ≡ y.ep → l ≡ h) (λ addr ep. absurd (unopened l streamed addr ep))
      (λ h other also addr ep. k.apart l h streamed also addr ep) j second)
      i first;
}

-- ---- the pipes

begin_pipe : (packets : List (List ℕ)) (o : Option Sender) (later : Hand) (now : StructureSets) (n : ℕ) (x : Endpoint) (q : Qh) → IsBeginning (now n) n q → HasEndpoint now n x → HasToggle later now n false → IsUntouched packets o → IsPipe packets o [] now later n x
begin_pipe packets o later now n x q begins named expects u = record {
  named = named;
  ins = λ a t here on. absurd (false≢true (sym (begins.none a t here) ∙ on));
  toggle = false;
  expects = expects;
  sender = u.sender;
  is = u.is;
  half = record {
    known = 0;
    left = u.left;
    agrees = subst (λ (b : Bool). PipeAgrees packets (record { known = 0; sends = b; accepted = []; expects = false })) (sym u.sends) (opening_agrees packets);
  };
}

-- the pipe of the queue head at i
abbrev PipeOf : {W : Type 0} → (W → ℕ → ℕ → Option Sender) → (ℕ → ℕ → List (List ℕ)) → (ℕ → Endpoint) → (ℕ → List (List ℕ)) → StructureSets → Hand → W → ℕ → Type 0
PipeOf {W} sender packets endpoint acc parts hand wire i = IsPipe (packets (endpoint i).addr (endpoint i).ep) (sender wire (endpoint i).addr (endpoint i).ep) (acc i) parts hand i (endpoint i)

-- where its structures stay
old_pipe : {W : Type 0} (sender : W → ℕ → ℕ → Option Sender) (packets : ℕ → ℕ → List (List ℕ)) (endpoint : ℕ → Endpoint) (acc : ℕ → List (List ℕ)) (hand later : Hand) (parts now : StructureSets) (wire : W) (n : ℕ) (x : Endpoint) (i : ℕ)
    → SameHand hand later → now i ≡ parts i → i ≢ n → PipeOf sender packets endpoint acc parts hand wire i → PipeOf sender packets (with_end endpoint n x) (with_none acc n) now later wire i
old_pipe sender packets endpoint acc hand later parts now wire n x i hands same differs p =
    subst (λ (y : Endpoint). IsPipe (packets y.addr y.ep) (sender wire y.addr y.ep) (with_none acc n i) now later i y) (sym (end_beside endpoint n x i differs))
    (subst (λ (xs : List (List ℕ)). IsPipe (packets (endpoint i).addr (endpoint i).ep) (sender wire (endpoint i).addr (endpoint i).ep) xs now later i (endpoint i)) (sym (list_beside acc n i differs))
    (record {
      named = spared_endpoint parts now i (endpoint i) (heads_stay parts now i same) p.named;
      ins = subst IsIn (sym same) p.ins;
      toggle = p.toggle;
      expects = spared_has_toggle hand later parts now i p.toggle hands (heads_stay parts now i same) p.expects;
      sender = p.sender;
      is = p.is;
      half = p.half;
    }))

pub pipes_with_one : {W : Type 0} (sender : W → ℕ → ℕ → Option Sender) → PipesWithOne sender
pipes_with_one sender stream packets member wider streams endpoint acc hand later parts now wire n x more own untouched others k = record {
  pipes = λ i on.
      ⊎_elim (λ (same : i ≡ n).
      subst (PipeOf sender packets (with_end endpoint n x) (with_none acc n) now later wire) (sym same)
      (subst (λ (y : Endpoint). IsPipe (packets y.addr y.ep) (sender wire y.addr y.ep) (with_none acc n n) now later n y) (sym (end_here endpoint n x))
      (subst (λ (xs : List (List ℕ)). IsPipe (packets x.addr x.ep) (sender wire x.addr x.ep) xs now later n x) (sym (list_here acc n))
      (begin_pipe (packets x.addr x.ep) (sender wire x.addr x.ep) later now n x more.queue more.begins more.named (more.expects own) untouched))))
      (λ (differs : i ≢ n).
      let streamed : streams i ≡ true = stream_beside streams n i differs on in
      old_pipe sender packets endpoint acc hand later parts now wire n x i more.hands (more.stay i streamed) differs (k.pipes i streamed)) (cases_eq i n);
  others = λ i on off.
      let both : (i ≢ n) × (streams i ≡ false) = none_beside streams n i off in
      subst (IsElsewhere stream now i) (sym (end_beside endpoint n x i both.0)) (others i on both.0 both.1);
}

-- ---- the report

no_link : (l : QtdLink) (b : ℕ) → l ≡ qtd_links.End → l ≡ qtd_links.To b → ⊥
no_link l b ends leads = cc

begin_reported : (order : ℕ → ℕ) (later : Hand) (now : StructureSets) (n : ℕ) (q : Qh) → IsBeginning (now n) n q → IsReported order [] later now n [] []
begin_reported order later now n q begins =
    let ordered : IsOrdered order 0 n (now n) = record {
      next = λ a t b here leads. absurd (no_link (qtd_link_of t.next) b (begins.ends a t here).0 leads);
      alternate = λ a t b here leads. absurd (no_link (qtd_link_of t.alternate) b (begins.ends a t here).1 leads);
      queue = λ r here. record {
        next = λ b leads. omega arith;
        alternate = λ b leads. omega arith;
        current = λ on. absurd (false≢true (sym begins.idle ∙ ap (λ (z : Qh). z.token.active) (found_queue (now n n) q r begins.here here) ∙ on));
      };
      fresh = λ a t here on from. absurd (false≢true (sym (begins.none a t here) ∙ on));
    } in
    record {
      place = 0;
      told = [];
      accounts = record {
        ordered = ordered;
        sorted = tt;
        published = λ a t among here from. absurd among;
        complete = λ a t here on. absurd (false≢true (sym (begins.none a t here) ∙ on));
        told = none_out;
      };
      sum = refl;
    }

old_report : (order : ℕ → ℕ → ℕ) (out : ℕ → List ℕ) (hand later : Hand) (parts now : StructureSets) (acc : ℕ → List (List ℕ)) (reported : ℕ → List ℕ) (n i : ℕ) → SameHand hand later → now i ≡ parts i → i ≢ n
    → IsReported (order i) (out i) hand parts i (acc i) (reported i) → IsReported (order i) (with_none out n i) later now i (with_none acc n i) (with_none reported n i)
old_report order out hand later parts now acc reported n i hands same differs r =
    subst (λ (xs : List ℕ). IsReported (order i) xs later now i (with_none acc n i) (with_none reported n i)) (sym (list_beside out n i differs))
    (subst (λ (xs : List (List ℕ)). IsReported (order i) (out i) later now i xs (with_none reported n i)) (sym (list_beside acc n i differs))
    (subst (λ (xs : List ℕ). IsReported (order i) (out i) later now i (acc i) xs) (sym (list_beside reported n i differs))
    (record {
      place = r.place;
      told = r.told;
      accounts = accounts_are_spared (order i) (order i) r.place r.place (out i) hand later parts now i r.told hands (heads_stay parts now i same) (λ e among. elements_stay parts now i e same)
          (subst (IsOrdered (order i) r.place i) (sym same) r.accounts.ordered) r.accounts.sorted
          (λ a t among here from. r.accounts.published a t among (ap (λ (part : Structures). part a) (sym same) ∙ here) from)
          (λ a t here active. r.accounts.complete a t (ap (λ (part : Structures). part a) (sym same) ∙ here) active) r.accounts;
      sum = r.sum;
    })))

pub reports_with_one : ReportsWithOne
reports_with_one streams order out hand later parts now acc reported n x more k i on =
    ⊎_elim (λ (same : i ≡ n).
    subst (λ (j : ℕ). IsReported (order j) (with_none out n j) later now j (with_none acc n j) (with_none reported n j)) (sym same)
    (subst (λ (xs : List ℕ). IsReported (order n) xs later now n (with_none acc n n) (with_none reported n n)) (sym (list_here out n))
    (subst (λ (xs : List (List ℕ)). IsReported (order n) [] later now n xs (with_none reported n n)) (sym (list_here acc n))
    (subst (λ (xs : List ℕ). IsReported (order n) [] later now n [] xs) (sym (list_here reported n)) (begin_reported (order n) later now n more.queue more.begins)))))
    (λ (differs : i ≢ n).
    let streamed : streams i ≡ true = stream_beside streams n i differs on in
    old_report order out hand later parts now acc reported n i more.hands (more.stay i streamed) differs (k i streamed)) (cases_eq i n)

-- ---- those that aren't opened yet

pub unopened_less_one : {W : Type 0} (sender : W → ℕ → ℕ → Option Sender) → UnopenedLessOne sender
unopened_less_one sender stream packets streams endpoint wire n x new k addr ep on unopened =
    k addr ep on (λ i streamed a e.
    let differs : i ≢ n = streamed_apart streams n i new streamed in
    unopened i (stream_old streams n i streamed) (ap (λ (y : Endpoint). y.addr) (end_beside endpoint n x i differs) ∙ a) (ap (λ (y : Endpoint). y.ep) (end_beside endpoint n x i differs) ∙ e))

-- ---- one more that has no stream

pub ends_with_other : EndsWithOther
ends_with_other stream member wider streams endpoint n x more off k =
    let same : (i : ℕ) → streams i ≡ true → with_end endpoint n x i ≡ endpoint i = λ i on. end_beside endpoint n x i (streamed_apart streams n i off on) in
    record {
      members = λ i on. more i (k.members i on);
      on = λ i on. ap (λ (y : Endpoint). stream y.addr y.ep) (same i on) ∙ k.on i on;
      high = λ i on. ap (λ (y : Endpoint). y.speed) (same i on) ∙ k.high i on;
      apart = λ i j first second addr ep.
          k.apart i j first second (sym (ap (λ (y : Endpoint). y.addr) (same i first)) ∙ addr ∙ ap (λ (y : Endpoint). y.addr) (same j second))
          (sym (ap (λ (y : Endpoint). y.ep) (same i first)) ∙ ep ∙ ap (λ (y : Endpoint). y.ep) (same j second));
    }

pub pipes_with_other : {W : Type 0} (sender : W → ℕ → ℕ → Option Sender) → PipesWithOther sender
pipes_with_other sender stream packets member wider streams endpoint acc hand later parts now wire n x more others k = record {
  pipes = λ i on. old_pipe sender packets endpoint acc hand later parts now wire n x i more.hands (more.stay i on) (streamed_apart streams n i more.new on) (k.pipes i on);
  others = λ i on off.
      ⊎_elim (λ (same : i ≡ n).
      subst (λ (j : ℕ). IsElsewhere stream now j (with_end endpoint n x j)) (sym same)
      (subst (IsElsewhere stream now n) (sym (end_here endpoint n x)) (more.named, inr (λ a t here active. absurd (false≢true (sym (more.begins.none a t here) ∙ active))))))
      (λ (differs : i ≢ n). subst (IsElsewhere stream now i) (sym (end_beside endpoint n x i differs)) (others i on differs off)) (cases_eq i n);
}

pub reports_with_other : ReportsWithOther
reports_with_other streams order out hand later parts now acc reported n x more k i on =
    old_report order out hand later parts now acc reported n i more.hands (more.stay i on) (streamed_apart streams n i more.new on) (k i on)

pub unopened_with_other : {W : Type 0} (sender : W → ℕ → ℕ → Option Sender) → UnopenedWithOther sender
unopened_with_other sender stream packets streams endpoint wire n x new k addr ep on unopened =
    k addr ep on (λ i streamed a e.
    let same : with_end endpoint n x i ≡ endpoint i = end_beside endpoint n x i (streamed_apart streams n i new streamed) in
    unopened i streamed (ap (λ (y : Endpoint). y.addr) same ∙ a) (ap (λ (y : Endpoint). y.ep) same ∙ e))
