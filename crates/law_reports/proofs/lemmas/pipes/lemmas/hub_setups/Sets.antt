-- What a queue sets up where its SETUP qTDs are among those that it had, and their buffers have the same bytes, or none.
use Rattle.std.proofs.Common.{◌≡◌, ◌≢◌, ℕ, ◌≤◌, ◌==◌, Bool, true, false, if◌then◌else◌, List, [], length, take, drop}
use Rattle.std.proofs.Common.{Option, Some, None, ap, refl, sym, subst, ◌∙◌, ⊎_elim, inl, inr, arith}
use Rattle.std.specs.Prelude.{◌⊎◌}
use Rattle.std.proofs.lemmas.Bool.{cases_eq, true≢false}
use Rattle.std.proofs.lemmas.List.{length-take, length-drop, take_all}
use Rattle.usb_base.specs.declared.packets.Pid.TheVariants as pids
use Rattle.qh_qtd.specs.declared.qtd.Qtd.{Qtd}
use Rattle.qh_qtd.specs.declared.queue_head.Qh.{Qh}
use Rattle.hc_copy.specs.Planning.{pid_at}
use Rattle.law_structures.specs.lent_structures.Structures.{Structure, QueueHead, Element, Buffer, Table, Isochronous, SplitIsochronous}
use Rattle.law_structures.specs.lent_structures.Structures.{Structures, StructureSets, put}
use Rattle.law_structures.specs.lent_structures.Sound.{buffer_name, AreOwn}
use Rattle.law_structures.specs.lent_structures.Alters.{HadElement, Alters}
use Rattle.law_structures.proofs.lemmas.lent_structures.Altering.{found_element}
use Rattle.law_structures.proofs.lemmas.lent_structures.Members.{still_active}
use Rattle.law_structures.proofs.lemmas.lent_structures.Names.{put_found, put_same, put_else, put_beside}
use Rattle.law_ring.specs.Effects.{bytes_in, buffer_of}
use Rattle.law_ring.specs.Fewer.{fewer_structures, without_those}
use Rattle.law_ring.proofs.Returning.{those_found}
use Rattle.law_world.specs.memory.SameQueues.{IsSameQueue}
use Rattle.law_reports.specs.pipes.hub_setups.Setups.{SendsOnly, SetsUp}
use Rattle.law_reports.proofs.lemmas.pipes.lemmas.hub_setups.KeptBytes.{IsUnreceived, StaysAt}

-- ---- bytes

none_eight : (bs : List ℕ) (n j : ℕ) → length bs ≡ 0 → length (take n (drop j bs)) ≡ 8 → ⊥
none_eight bs n j none e =
    let one = length-take n (drop j bs) in
    let two = length-drop j bs in
    omega (arith, one, two, e, none)

pub sends_none : (Q : List ℕ → Type 0) → SendsOnly Q []
sends_none Q j n e = absurd (none_eight [] n j refl e)

-- eight bytes are sent whole
pub sends_whole : (Q : List ℕ → Type 0) (bs : List ℕ) → length bs ≡ 8 → Q bs → SendsOnly Q bs
sends_whole Q bs eight fits j n e =
    let one = length-take n (drop j bs) in
    let two = length-drop j bs in
    let none : j ≡ 0 = omega (arith, one, two, e, eight) in
    let most : length bs ≤ n = omega (arith, one, two, e, eight) in
    subst Q (sym (ap (λ (i : ℕ). take n (drop i bs)) none ∙ take_all n bs most)) fits

-- ---- fewer

-- it was there, and its buffer has the same bytes, or is gone
pub record HadSetup (part now : Structures) (a : ℕ) (t : Qtd) : Type 0 where
  pub was : part a ≡ Some (Element t)
  pub bytes : (buffer_of now t ≡ buffer_of part t) ⊎ (buffer_of now t ≡ [])

abbrev pub IsFewer : Structures → Structures → Type 0
IsFewer part now = (a : ℕ) (t : Qtd) → now a ≡ Some (Element t) → t.token.active ≡ true → pid_at t.token.pid ≡ pids.Setup
    → HadSetup part now a t

pub sets_fewer : (Q : List ℕ → Type 0) (part now : Structures) → IsFewer part now → SetsUp Q part → SetsUp Q now
sets_fewer Q part now fewer sets a t here on two =
    let had : HadSetup part now a t = fewer a t here on two in
    ⊎_elim
    (λ (same : buffer_of now t ≡ buffer_of part t). subst (λ (bs : List ℕ). SendsOnly Q bs) (sym same) (sets a t had.was on two))
    (λ (none : buffer_of now t ≡ []). subst (λ (bs : List ℕ). SendsOnly Q bs) (sym none) (sends_none Q)) had.bytes

pub fewer_then : (part now later : Structures) → IsFewer part now → IsFewer now later → IsFewer part later
fewer_then part now later one two a t here on is =
    let last : HadSetup now later a t = two a t here on is in
    let first : HadSetup part now a t = one a t last.was on is in
    record {
      was = first.was;
      bytes = ⊎_elim
          (λ (same : buffer_of later t ≡ buffer_of now t).
          ⊎_elim (λ (also : buffer_of now t ≡ buffer_of part t). inl (same ∙ also)) (λ (none : buffer_of now t ≡ []). inr (same ∙ none))
          first.bytes)
          (λ (none : buffer_of later t ≡ []). inr none) last.bytes;
    }

pub fewer_same : (part now : Structures) → now ≡ part → IsFewer part now
fewer_same part now same a t here on two =
    record { was = ap (λ (p : Structures). p a) (sym same) ∙ here; bytes = inl (ap (λ (p : Structures). buffer_of p t) same) }

pub fewer_relinked : (n : ℕ) (part now : Structures) → IsSameQueue n part now → IsFewer part now
fewer_relinked n part now same a t here on two =
    record { was = same.elements_were a t here; bytes = inl (same.bytes (buffer_name t)) }

-- ---- a structure without bytes is put

put_bytes : (parts : StructureSets) (n a : ℕ) (s : Structure) → bytes_in (Some s) ≡ [] → (m c : ℕ)
    → (bytes_in (put parts n a s m c) ≡ bytes_in (parts m c)) ⊎ (bytes_in (put parts n a s m c) ≡ [])
put_bytes parts n a s none m c =
    ⊎_elim
    (λ (owner : m ≡ n).
    ⊎_elim
    (λ (name : c ≡ a).
    inr (ap (λ (i : ℕ). bytes_in (put parts n a s i c)) owner ∙ ap (λ (i : ℕ). bytes_in (put parts n a s n i)) name
    ∙ ap bytes_in (put_same parts n a s) ∙ none))
    (λ (differs : c ≢ a).
    inl (ap (λ (i : ℕ). bytes_in (put parts n a s i c)) owner ∙ ap bytes_in (put_else parts n a s c differs)
    ∙ ap (λ (i : ℕ). bytes_in (parts i c)) (sym owner))) (cases_eq c a))
    (λ (differs : m ≢ n). inl (ap (λ (p : Structures). bytes_in (p c)) (put_beside parts n a s m differs))) (cases_eq m n)

head_element : (q : Qh) (t : Qtd) → Element t ≡ QueueHead q → ⊥
head_element q t e = cc

same_element : (t u : Qtd) → Element t ≡ Element u → t ≡ u
same_element t u e = cc

pub fewer_headed : (parts : StructureSets) (n : ℕ) (q : Qh) (m : ℕ) → IsFewer (parts m) (put parts n n (QueueHead q) m)
fewer_headed parts n q m a t here on two = record {
  was = ⊎_elim (λ (own : (m ≡ n) × (a ≡ n) × (Element t ≡ QueueHead q)). absurd (head_element q t own.2))
      (λ (old : parts m a ≡ Some (Element t)). old) (put_found parts n n (QueueHead q) m a (Element t) here);
  bytes = put_bytes parts n n (QueueHead q) refl m (buffer_name t);
}

-- an inactive qTD
pub fewer_rested : (parts : StructureSets) (n b : ℕ) (u : Qtd) → u.token.active ≡ false → (m : ℕ)
    → IsFewer (parts m) (put parts n b (Element u) m)
fewer_rested parts n b u off m a t here on two = record {
  was = ⊎_elim
      (λ (own : (m ≡ n) × (a ≡ b) × (Element t ≡ Element u)).
      absurd (true≢false (sym on ∙ ap (λ (z : Qtd). z.token.active) (same_element t u own.2) ∙ off)))
      (λ (old : parts m a ≡ Some (Element t)). old) (put_found parts n b (Element u) m a (Element t) here);
  bytes = put_bytes parts n b (Element u) refl m (buffer_name t);
}

-- ---- some are given back

those_bytes : (parts : StructureSets) (n : ℕ) (goes : ℕ → Bool) (m c : ℕ)
    → (bytes_in (without_those parts n goes m c) ≡ bytes_in (parts m c)) ⊎ (bytes_in (without_those parts n goes m c) ≡ [])
those_bytes parts n goes m c = by (m == n)
  where
    fewer : (goes_so : Bool) → (bytes_in (if goes_so then None else parts m c) ≡ bytes_in (parts m c))
        ⊎ (bytes_in (if goes_so then None else parts m c) ≡ [])
    fewer true = inr refl
    fewer false = inl refl

    by : (own : Bool) → (bytes_in ((if own then fewer_structures goes (parts m) else parts m) c) ≡ bytes_in (parts m c))
        ⊎ (bytes_in ((if own then fewer_structures goes (parts m) else parts m) c) ≡ [])
    by true = fewer (goes c)
    by false = inl refl

pub fewer_returned : (parts : StructureSets) (n : ℕ) (goes : ℕ → Bool) (m : ℕ) → IsFewer (parts m) (without_those parts n goes m)
fewer_returned parts n goes m a t here on two =
    record { was = those_found parts n goes m a (Element t) here; bytes = those_bytes parts n goes m (buffer_name t) }

-- ---- an event of the controller

-- where there is no buffer, none comes
pub kept_bytes : (part now : Structures) (name : ℕ) → Alters part now → StaysAt part now name → (p : Option Structure) → now name ≡ p
    → (bytes_in (now name) ≡ bytes_in (part name)) ⊎ (bytes_in (now name) ≡ [])
kept_bytes part now name alters stays (Some (Buffer pages k bs)) is =
    let had = alters.buffer_before name pages k bs is in
    inl (ap bytes_in (stays pages k had.bytes had.here) ∙ sym (ap bytes_in had.here))
kept_bytes part now name alters stays (Some (QueueHead q)) is = inr (ap bytes_in is)
kept_bytes part now name alters stays (Some (Element t)) is = inr (ap bytes_in is)
kept_bytes part now name alters stays (Some (Table ws)) is = inr (ap bytes_in is)
kept_bytes part now name alters stays (Some (Isochronous v)) is = inr (ap bytes_in is)
kept_bytes part now name alters stays (Some (SplitIsochronous v)) is = inr (ap bytes_in is)
kept_bytes part now name alters stays None is = inr (ap bytes_in is)

in_setup : pids.Setup ≡ pids.In → ⊥
in_setup e = cc

-- nothing is received into the buffer of a SETUP
pub fewer_after : (part now : Structures) → AreOwn part → Alters part now
    → ((name : ℕ) → IsUnreceived part name → StaysAt part now name) → IsFewer part now
fewer_after part now own alters stays a t here on two =
    let had : HadElement part a t = alters.element_before a t here in
    let same : t ≡ had.qtd = still_active had.qtd t had.after on in
    let was : part a ≡ Some (Element t) = had.here ∙ ap (λ (u : Qtd). Some (Element u)) (sym same) in
    record {
      was = was;
      bytes = kept_bytes part now (buffer_name t) alters (λ pages k bs at.
          stays (buffer_name t) (λ e u there active one named.
          let place : e ≡ a = own e a u t pages k bs there was named (ap part named ∙ at) in
          let is : u ≡ t = found_element (part e) u t there (ap part place ∙ was) in
          in_setup (sym (ap (λ (z : Qtd). pid_at z.token.pid) is ∙ two) ∙ ap pid_at one)) pages k bs at) (now (buffer_name t)) refl;
    }
