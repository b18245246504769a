-- The streams of the worked rows.
use Rattle.std.proofs.Common.{◌≡◌, ℕ, ◌≤◌, ◌==◌, Bool, true, false, List, [], ◌∷◌, ◌++◌, Some, ap, refl, sym, subst, ◌∙◌, ⊎_elim, inl, inr, arith}
use Rattle.std.proofs.lemmas.Option.{same_Some}
use Rattle.std.proofs.lemmas.Bool.{eqb-true, false≢true}
use Rattle.law_structures.proofs.Common.{element_is as same_element}
use Rattle.qh_qtd.specs.declared.qtd.Qtd.{Qtd}
use Rattle.qh_qtd.specs.declared.queue_head.Qh.{Qh}
use Rattle.link_words.specs.declared.kinds.QtdLink.{QtdLink}
use Rattle.link_words.specs.declared.kinds.QtdLink.TheVariants as qtd_links
use Rattle.link_words.specs.Links.{qtd_link_of}
use Rattle.law_structures.specs.lent_structures.Structures.{QueueHead, Element, Buffer, Structures, StructureSets, put}
use Rattle.law_structures.specs.lent_structures.StructureSamples.{bytes, pages, nothing}
use Rattle.law_structures.proofs.lemmas.lent_structures.Names.{put_found}
use Rattle.law_structures.proofs.lemmas.lent_structures.Altering.{found_queue}
use Rattle.law_ring.specs.Hand.{Hand, Empty}
use Rattle.law_ring.specs.Told.{endpoint_of}
use Rattle.law_ring.specs.Order.{IsFresh, IsOrdered, IsSorted, IsAmong, AllTold, none_out, one_out, Accounts}
use Rattle.law_ring.specs.OutBus.{Taker}
use Rattle.law_ring.specs.OutPipes.{OutAgrees, level, ahead, ended}
use Rattle.qh_qtd.specs.Blank.{blank_token, blank_qtd}
use Rattle.law_controller.specs.controlled_streams.Outs.{IsOutStream}
use Rattle.law_world.specs.steps.Outs.{IsUntaken, GoesAs}
use Rattle.law_world.specs.steps.RowSamples.{idle, sending, done, ring, Sends}

-- ---- the one qTD

element_is : (q : Qh) (t : Qtd) (a : ℕ) (u : Qtd) → ring q t 0 a ≡ Some (Element u) → (a ≡ 64) × (u ≡ t)
element_is q t a u here =
    ⊎_elim (λ (top : (0 ≡ 0) × (a ≡ 100) × (Element u ≡ Buffer pages 100 bytes)). absurd (never_buffer top.2))
    (λ (next : put (put nothing 0 0 (QueueHead q)) 0 64 (Element t) 0 a ≡ Some (Element u)).
    ⊎_elim (λ (mid : (0 ≡ 0) × (a ≡ 64) × (Element u ≡ Element t)). (mid.1, same_element u t mid.2))
    (λ (last : put nothing 0 0 (QueueHead q) 0 a ≡ Some (Element u)).
    ⊎_elim (λ (low : (0 ≡ 0) × (a ≡ 0) × (Element u ≡ QueueHead q)). absurd (never_head low.2)) (λ (none : nothing 0 a ≡ Some (Element u)). absurd (never none))
    (put_found nothing 0 0 (QueueHead q) 0 a (Element u) last))
    (put_found (put nothing 0 0 (QueueHead q)) 0 64 (Element t) 0 a (Element u) next))
    (put_found (put (put nothing 0 0 (QueueHead q)) 0 64 (Element t)) 0 100 (Buffer pages 100 bytes) 0 a (Element u) here)
  where
    never_buffer : Element u ≡ Buffer pages 100 bytes → ⊥
    never_buffer same = cc

    never_head : Element u ≡ QueueHead q → ⊥
    never_head same = cc

    never : nothing 0 a ≡ Some (Element u) → ⊥
    never none = cc

no_link : (l : QtdLink) (b : ℕ) → l ≡ qtd_links.End → l ≡ qtd_links.To b → ⊥
no_link l b ends leads = cc

-- a queue head that rests, with one qTD that leads nowhere
pub record Rests (q : Qh) (t : Qtd) : Type 0 where
  pub idle_now : q.token.active ≡ false
  pub next : qtd_link_of q.next ≡ qtd_links.End
  pub alternate : qtd_link_of q.alternate ≡ qtd_links.End
  pub qtd_next : qtd_link_of t.next ≡ qtd_links.End
  pub qtd_alternate : qtd_link_of t.alternate ≡ qtd_links.End
  pub fresh : t.token.active ≡ true → IsFresh (ring q t 0) t

ordered : (q : Qh) (t : Qtd) (place : ℕ) → Rests q t → IsOrdered (λ a. a) place 0 (ring q t 0)
ordered q t place k = record {
  next = λ a u b here leads. absurd (no_link (qtd_link_of t.next) b k.qtd_next (ap (λ (x : Qtd). qtd_link_of x.next) (sym (element_is q t a u here).1) ∙ leads));
  alternate = λ a u b here leads. absurd (no_link (qtd_link_of t.alternate) b k.qtd_alternate (ap (λ (x : Qtd). qtd_link_of x.alternate) (sym (element_is q t a u here).1) ∙ leads));
  queue = λ r here.
      let same : q ≡ r = found_queue (ring q t 0 0) q r refl here in
      record {
        next = λ b leads. absurd (no_link (qtd_link_of q.next) b k.next (ap (λ (x : Qh). qtd_link_of x.next) same ∙ leads));
        alternate = λ b leads. absurd (no_link (qtd_link_of q.alternate) b k.alternate (ap (λ (x : Qh). qtd_link_of x.alternate) same ∙ leads));
        current = λ on. absurd (false≢true (sym k.idle_now ∙ ap (λ (x : Qh). x.token.active) same ∙ on));
      };
  fresh = λ a u here on from.
      let is = (element_is q t a u here).1 in
      subst (IsFresh (ring q t 0)) (sym is) (k.fresh (ap (λ (x : Qtd). x.token.active) (sym is) ∙ on));
}

pub accounts : (q : Qh) (t : Qtd) (place : ℕ) (out xs : List ℕ) → Rests q t → (IsAmong 64 out → place ≤ 64 → t.token.active ≡ true) → (t.token.active ≡ true → IsAmong 64 out) → IsSorted (λ a. a) out → AllTold Empty (ring q t) 0 out xs → Accounts (λ a. a) place out Empty (ring q t) 0 xs
accounts q t place out xs k published complete sorted told = record {
  ordered = ordered q t place k;
  sorted = sorted;
  published = λ a u among here from.
      let is = element_is q t a u here in
      ap (λ (x : Qtd). x.token.active) is.1 ∙ published (subst (λ (i : ℕ). IsAmong i out) is.0 among) (subst (λ (i : ℕ). place ≤ i) is.0 from);
  complete = λ a u here on.
      let is = element_is q t a u here in
      subst (λ (i : ℕ). IsAmong i out) (sym is.0) (complete (ap (λ (x : Qtd). x.token.active) (sym is.1) ∙ on));
  told = told;
}

-- ---- the stream

module _ (q : Qh) (t : Qtd) (s : Taker) (k : Rests q t) (same_end : endpoint_of q ≡ endpoint_of idle) (own : q.dtc ≡ false) (out_only : t.token.pid ≡ 0) where
  stream : (place : ℕ) (out told harvested : List ℕ) → Accounts (λ a. a) place out Empty (ring q t) 0 told → s.expects ≡ q.token.toggle → s.taken ≡ harvested ++ told
      → IsOutStream (λ addr ep. ep == 2) (Some s) (λ n. n == 0) (λ a. a) out (ring q t) Empty 0 (endpoint_of idle) harvested
  stream place out told harvested are expects taken = record {
    only = record { on = refl; streamed = refl; high = refl; others = λ m on differs. absurd (differs (eqb-true m 0 on)) };
    place = place;
    told = told;
    accounts = are;
    pipe = record {
      named = record { queue = q; head = refl; is = sym same_end };
      outs = λ a u here on. ap (λ (x : Qtd). x.token.pid) (element_is q t a u here).1 ∙ out_only;
      toggle = q.token.toggle;
      expects = record { queue = q; head = refl; own = own; is = refl };
      taker = s;
      is = refl;
      agrees = level expects taken;
    };
  }

  pub sends : (place : ℕ) (out told harvested : List ℕ) → Accounts (λ a. a) place out Empty (ring q t) 0 told → s.expects ≡ q.token.toggle → s.taken ≡ harvested ++ told → Sends out harvested (ring q t) s
  sends place out told harvested are expects taken = record {
    streams = λ n on.
        subst (λ (i : ℕ). IsOutStream (λ addr ep. ep == 2) (Some s) (λ m. m == 0) (λ a. a) out (ring q t) Empty i (endpoint_of idle) harvested) (sym (eqb-true n 0 on)) (stream place out told harvested are expects taken);
    others = λ n on off. absurd (false≢true (sym off ∙ on));
  }

-- ---- the rows

abbrev pub turned : Qh
turned = record idle { token = record blank_token { toggle = true } }

rests_idle : Rests idle blank_qtd
rests_idle = record { idle_now = refl; next = refl; alternate = refl; qtd_next = refl; qtd_alternate = refl; fresh = λ on. absurd (false≢true on) }

rests_sending : Rests idle sending
rests_sending = record { idle_now = refl; next = refl; alternate = refl; qtd_next = refl; qtd_alternate = refl; fresh = λ on. refl }

rests_done : Rests turned done
rests_done = record { idle_now = refl; next = refl; alternate = refl; qtd_next = refl; qtd_alternate = refl; fresh = λ on. absurd (false≢true on) }

pub begins_row : Sends [] [] (ring idle blank_qtd) (record { taken = []; expects = false })
begins_row =
    sends idle blank_qtd (record { taken = []; expects = false }) rests_idle refl refl refl 0 [] [] []
    (accounts idle blank_qtd 0 [] [] rests_idle (λ among low. absurd among) (λ on. absurd (false≢true on)) tt none_out) refl refl

pub stored_row : Sends (64 ∷ []) [] (ring idle sending) (record { taken = []; expects = false })
stored_row =
    sends idle sending (record { taken = []; expects = false }) rests_sending refl refl refl 0 (64 ∷ []) [] []
    (accounts idle sending 0 (64 ∷ []) [] rests_sending (λ among low. refl) (λ on. inl refl) (tt, tt)
    (one_out 64 [] [] [] (record { queue = idle; head = refl; qtd = sending; here = refl; are = refl }) none_out)) refl refl

pub sent_row : Sends (64 ∷ []) [] (ring turned done) (record { taken = 7 ∷ 9 ∷ []; expects = true })
sent_row =
    sends turned done (record { taken = 7 ∷ 9 ∷ []; expects = true }) rests_done refl refl refl 65 (64 ∷ []) (7 ∷ 9 ∷ []) []
    (accounts turned done 65 (64 ∷ []) (7 ∷ 9 ∷ []) rests_done (λ among low. absurd (omega (arith, low))) (λ on. absurd (false≢true on)) (tt, tt)
    (one_out 64 [] (7 ∷ 9 ∷ []) [] (record { queue = turned; head = refl; qtd = done; here = refl; are = refl }) none_out)) refl refl

pub harvested_row : Sends [] (7 ∷ 9 ∷ []) (ring turned done) (record { taken = 7 ∷ 9 ∷ []; expects = true })
harvested_row =
    sends turned done (record { taken = 7 ∷ 9 ∷ []; expects = true }) rests_done refl refl refl 0 [] [] (7 ∷ 9 ∷ [])
    (accounts turned done 0 [] [] rests_done (λ among low. absurd among) (λ on. absurd (false≢true on)) tt none_out) refl refl

-- ---- what is no stream

none_told : (hand : Hand) (parts : StructureSets) (n : ℕ) (xs : List ℕ) → AllTold hand parts n [] xs → xs ≡ []
none_told hand parts n xs none_out = refl

some_byte : (b : ℕ) (bs : List ℕ) → b ∷ bs ≡ [] → ⊥
some_byte b bs same = cc

untold : (part : Structures) (q : Qh) (h : Bool) (known : List ℕ) (s : Taker) → q.token.active ≡ false → q.token.halted ≡ false → OutAgrees part Empty 0 q h known s → s.taken ≡ known
untold part q h known s off goes (level expects taken) = taken
untold part q h known s off goes (ahead x expects taken own on next un) = absurd (false≢true (sym off ∙ on))
untold part q h known s off goes (ended x expects taken over halted) = absurd (false≢true (sym goes ∙ halted))

pub wrong_row : Sends [] [] (ring idle blank_qtd) (record { taken = 7 ∷ []; expects = false }) → ⊥
wrong_row k =
    let z = k.streams 0 refl in
    let p = z.pipe in
    let head : p.expects.queue ≡ idle = found_queue (ring idle blank_qtd 0 0) p.expects.queue idle p.expects.head refl in
    let taken : p.taker.taken ≡ z.told = untold (ring idle blank_qtd 0) p.expects.queue p.toggle z.told p.taker (ap (λ (q : Qh). q.token.active) head) (ap (λ (q : Qh). q.token.halted) head) p.agrees in
    some_byte 7 [] (ap (λ (s : Taker). s.taken) (same_Some (record { taken = 7 ∷ []; expects = false }) p.taker p.is) ∙ taken ∙ none_told Empty (ring idle blank_qtd) 0 z.told z.accounts.told)

pub taken_some : IsUntaken (Some (record { taken = 7 ∷ 9 ∷ []; expects = true })) → ⊥
taken_some k = some_byte 7 (9 ∷ []) (ap (λ (s : Taker). s.taken) (same_Some (record { taken = 7 ∷ 9 ∷ []; expects = true }) k.taker k.is) ∙ k.none)

pub never_in : GoesAs (λ n. n == 0) 0 (record blank_qtd { token = record blank_token { active = true; pid = 1 } }) → ⊥
never_in (inl goes) = one_zero goes.1
  where
    one_zero : ◌≡◌ {A = ℕ} 1 0 → ⊥
    one_zero same = cc
never_in (inr goes) = false≢true (sym goes.0)

pub never_beside : GoesAs (λ n. n == 0) 32 sending → ⊥
never_beside (inl goes) = false≢true goes.0
never_beside (inr goes) = goes.1 refl
