-- The stages of a request and their qTDs: which comes after which, where they stand, and what stays of them.
use Rattle.std.proofs.Common.{◌≡◌, ◌≢◌, ℕ, ◌==◌, Bool, true, false, not, ◌&&◌, if◌then◌else◌, Option, Some, None, refl, sym, ap, ◌∙◌, subst, inl, inr}
use Rattle.std.specs.Prelude.{◌⊎◌}
use Rattle.std.proofs.lemmas.Bool.{false≢true}
use Rattle.link_words.specs.declared.fields.ShortLink.{ShortLink}
use Rattle.link_words.specs.declared.kinds.QtdLink.{QtdLink}
use Rattle.link_words.specs.declared.kinds.QtdLink.TheVariants.{End, To}
use Rattle.link_words.specs.Links.{qtd_link_of}
use Rattle.qh_qtd.specs.declared.qtd.Qtd.{Qtd}
use Rattle.qh_qtd.specs.declared.queue_head.Qh.{Qh}
use Rattle.law_structures.specs.lent_structures.Structures.{Element, Structures}
use Rattle.law_structures.specs.lent_structures.Alters.{HasElementAfter, HadElement, Alters}
use Rattle.law_structures.proofs.lemmas.lent_structures.Members.{still_active}
use Rattle.claims_report.specs.Requests.{Request}
use Rattle.law_request.specs.Host.{Endpoint, Stage, Setup, Data, Status, Done, Halted, has_data, is_over, next_stage}
use Rattle.law_devices.specs.ring_requests.Laid.{Places, place_at, AreApart, comes, LeadTo, IsLinkBehind, LeadBehind, IsUnpublished, IsIdle, Leads, HasBytes, IsStage, IsFresh}
use Rattle.law_devices.specs.ring_requests.Shown.{pointer_at}

-- ---- which comes after which

pub comes_self : (r : Request) (s : Stage) → is_over s ≡ false → comes r s s ≡ true
comes_self r Done on = absurd (false≢true (sym on))
comes_self r (Halted cause) on = absurd (false≢true (sym on))
comes_self r _ on = refl

after_setup : (r : Request) (b : Bool) (t : Stage) → has_data r ≡ b → comes r (if b then Data else Status) t ≡ true → comes r Setup t ≡ true
after_setup r true Setup is on = absurd (false≢true on)
after_setup r true Data is on = is
after_setup r true Status is on = refl
after_setup r true Done is on = on
after_setup r true (Halted cause) is on = on
after_setup r false Setup is on = absurd (false≢true on)
after_setup r false Data is on = absurd (false≢true on)
after_setup r false Status is on = refl
after_setup r false Done is on = on
after_setup r false (Halted cause) is on = on

after_data : (r : Request) (t : Stage) → comes r Status t ≡ true → comes r Data t ≡ true
after_data r Status on = refl
after_data r Data on = absurd (false≢true on)
after_data r _ on = on

pub comes_later : (r : Request) (s t : Stage) → is_over s ≡ false → comes r (next_stage r s) t ≡ true → comes r s t ≡ true
comes_later r Setup t going on = after_setup r (has_data r) t refl on
comes_later r Data t going on = after_data r t on
comes_later r Status t going on = absurd (false≢true on)
comes_later r _ t going on = absurd (false≢true (sym going))

not_setup : (r : Request) (b : Bool) → comes r (if b then Data else Status) Setup ≡ true → ⊥
not_setup r true on = false≢true on
not_setup r false on = false≢true on

pub next_apart : (r : Request) (x : Places) → AreApart x → (s t : Stage) → is_over s ≡ false → comes r (next_stage r s) t ≡ true → place_at x t ≢ place_at x s
next_apart r x apart Setup Setup going on e = not_setup r (has_data r) on
next_apart r x apart Setup Data going on e = apart.setup_data (sym e)
next_apart r x apart Setup Status going on e = apart.setup_status (sym e)
next_apart r x apart Setup Done going on e = apart.setup_status (sym e)
next_apart r x apart Setup (Halted cause) going on e = apart.setup_status (sym e)
next_apart r x apart Data Setup going on e = false≢true on
next_apart r x apart Data Data going on e = false≢true on
next_apart r x apart Data Status going on e = apart.data_status (sym e)
next_apart r x apart Data Done going on e = apart.data_status (sym e)
next_apart r x apart Data (Halted cause) going on e = apart.data_status (sym e)
next_apart r x apart Status t going on e = false≢true on
next_apart r x apart _ t going on e = false≢true (sym going)

-- ---- links

abbrev target : QtdLink → ℕ
target End = 0
target (To a) = a

pub to_same : (a b : ℕ) → To a ≡ To b → a ≡ b
to_same a b e = ap target e

either_link : (P : ShortLink → Type 0) (b : Bool) (x y : ShortLink) → (b ≡ true → P x) → P y → P (if b then x else y)
either_link P true x y f other = f refl
either_link P false x y f other = other

and_not : (a t : Bool) → (not a && not t) ≡ true → t ≡ false
and_not a false on = refl
and_not true true on = absurd (false≢true on)
and_not false true on = absurd (false≢true on)

chosen : (P : ShortLink → Type 0) (q : Qh) (t : Qtd) (left : ℕ) → q.next ≡ t.next → q.alternate ≡ t.alternate → P t.next → ((t.alternate.t ≡ true) ⊎ P t.alternate) → P (pointer_at left q)
chosen P q t left next alternate first second =
    either_link P (not (left == 0) && not q.alternate.t) q.alternate q.next
    (λ on. subst P (sym alternate) (by second (ap (λ (l : ShortLink). l.t) (sym alternate) ∙ and_not (left == 0) q.alternate.t on)))
    (subst P (sym next) first)
  where
    by : ((t.alternate.t ≡ true) ⊎ P t.alternate) → t.alternate.t ≡ false → P t.alternate
    by (inl none) off = absurd (false≢true (sym off ∙ none))
    by (inr there) off = there

pub pointer_to : (q : Qh) (t : Qtd) (left a : ℕ) → q.next ≡ t.next → q.alternate ≡ t.alternate → LeadTo t a → qtd_link_of (pointer_at left q) ≡ To a
pointer_to q t left a next alternate leads = chosen (λ (l : ShortLink). qtd_link_of l ≡ To a) q t left next alternate leads.next leads.alternate

pub pointer_behind : (part : Structures) (o : Option ℕ) (q : Qh) (t : Qtd) (left : ℕ) → q.next ≡ t.next → q.alternate ≡ t.alternate → LeadBehind part o t → IsLinkBehind part o (pointer_at left q)
pointer_behind part o q t left next alternate leads = chosen (IsLinkBehind part o) q t left next alternate leads.next leads.alternate

pub pointer_same : (left : ℕ) (q new : Qh) → new.next ≡ q.next → new.alternate ≡ q.alternate → pointer_at left new ≡ pointer_at left q
pointer_same left q new next alternate =
    ap (λ (l : ShortLink). if not (left == 0) && not l.t then l else new.next) alternate ∙ ap (λ (l : ShortLink). if not (left == 0) && not q.alternate.t then q.alternate else l) next

-- ---- what stays

pub unpublished_still : (part now : Structures) (link : ShortLink) → Alters part now → IsUnpublished part link → IsUnpublished now link
unpublished_still part now link alters nots a u leads here = by u.token.active refl
  where
    had : HadElement part a u
    had = alters.element_before a u here

    by : (b : Bool) → u.token.active ≡ b → u.token.active ≡ false
    by false off = off
    by true on =
        let same : u ≡ had.qtd = still_active had.qtd u had.after on in
        ap (λ (t : Qtd). t.token.active) same ∙ nots a had.qtd leads had.here

pub idle_still : (part now : Structures) (a : ℕ) → Alters part now → IsIdle part a → IsIdle now a
idle_still part now a alters k = record { qtd = u.qtd; here = u.here; idle = by u.qtd.token.active refl }
  where
    u : HasElementAfter now a k.qtd
    u = alters.element a k.qtd k.here

    by : (b : Bool) → u.qtd.token.active ≡ b → u.qtd.token.active ≡ false
    by false off = off
    by true on = ap (λ (t : Qtd). t.token.active) (still_active k.qtd u.qtd u.after on) ∙ k.idle

pub link_still : (part now : Structures) (o : Option ℕ) (link : ShortLink) → Alters part now → IsLinkBehind part o link → IsLinkBehind now o link
link_still part now None link alters nots = unpublished_still part now link alters nots
link_still part now (Some a) link alters leads = leads

alternate_still : (part now : Structures) (o : Option ℕ) (t : Qtd) → Alters part now → (t.alternate.t ≡ true) ⊎ IsLinkBehind part o t.alternate → (t.alternate.t ≡ true) ⊎ IsLinkBehind now o t.alternate
alternate_still part now o t alters (inl none) = inl none
alternate_still part now o t alters (inr leads) = inr (link_still part now o t.alternate alters leads)

behind_still : (part now : Structures) (o : Option ℕ) (t : Qtd) → Alters part now → LeadBehind part o t → LeadBehind now o t
behind_still part now o t alters leads = record { next = link_still part now o t.next alters leads.next; alternate = alternate_still part now o t alters leads.alternate }

pub leads_still : (r : Request) (x : Places) (part now : Structures) (s : Stage) (t : Qtd) → Alters part now → Leads r x part s t → Leads r x now s t
leads_still r x part now Setup t alters leads = leads
leads_still r x part now Data t alters leads = leads
leads_still r x part now _ t alters leads = behind_still part now x.behind t alters leads

abbrev pub stage_still : (e : Endpoint) (r : Request) (x : Places) (part now : Structures) (s : Stage) (k : IsStage e r x part s) → Alters part now → now (place_at x s) ≡ Some (Element k.qtd) → (HasBytes r part s k.qtd → HasBytes r now s k.qtd) → IsStage e r x now s
stage_still e r x part now s k alters here bytes = record { qtd = k.qtd; here = here; pid = k.pid; leads = leads_still r x part now s k.qtd alters k.leads; bytes = bytes k.bytes }

pub fresh_still : (e : Endpoint) (r : Request) (x : Places) (part now : Structures) (s : Stage) (k : IsFresh e r x part s) → Alters part now → now (place_at x s) ≡ Some (Element k.stage.qtd) → (HasBytes r part s k.stage.qtd → HasBytes r now s k.stage.qtd) → IsFresh e r x now s
fresh_still e r x part now s k alters here bytes = record { stage = stage_still e r x part now s k.stage alters here bytes; begins = k.begins }
