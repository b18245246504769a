-- What requests and split asks leave of a hub's ports.
use Rattle.std.proofs.Common.{◌≡◌, ℕ, Bool, true, false, List, Option, Some, None, length, refl, subst, sym, if◌then◌else◌}
use Rattle.usb_base.specs.declared.packets.Ask.{Ask}
use Rattle.dev_control.specs.Stages.{Stages, stages_after}
use Rattle.hub_ports.specs.declared.rows.HubRequest.{HubRequest}
use Rattle.hub_ports.specs.declared.rows.HubRequest.TheVariants.{HubStatus}
use Rattle.hub_ports.specs.Requests.{request_of}
use Rattle.usb_base.specs.declared.packets.Split.{Split}
use Rattle.usb_base.specs.declared.packets.Split.TheVariants.{Plain}
use Rattle.hub_class.specs.HubContent.{HubContent}
use Rattle.hub_class.specs.Requesting.{effect_if, request_at, requested}
use Rattle.hub_class.specs.EndpointZero.{acts_on, row_at, reply_under, acted_with, suits, hub_answered}
use Rattle.hub_class.specs.Translating.{after_split}

pub split_ports : (split : Split) (ask : Ask) (out : List ℕ) (stuff : ℕ) (h : HubContent) → (after_split split ask out stuff h).ports ≡ h.ports
split_ports Plain ask out stuff h = refl
split_ports _ ask out stuff h = refl

pub split_control : (split : Split) (ask : Ask) (out : List ℕ) (stuff : ℕ) (h : HubContent) → (after_split split ask out stuff h).control ≡ h.control
split_control Plain ask out stuff h = refl
split_control _ ask out stuff h = refl

-- endpoint 0's own state has no part in an effect
effect_ports : (request : Option HubRequest) (c : Stages) (h : HubContent) → (effect_if request (record h { control = c })).ports ≡ (effect_if request h).ports
effect_ports (Some HubStatus) c h = refl
effect_ports _ c h = refl

none_acted : (b : Bool) (o : Option (List ℕ)) (c : Stages) (h : HubContent) → o ≡ None → (if b then acted_with o (record h { control = c }) else h).ports ≡ h.ports
none_acted true o c h e = subst (λ x. (acted_with x (record h { control = c })).ports ≡ h.ports) (sym e) refl
none_acted false o c h e = refl

one_acted : (b : Bool) (o : Option (List ℕ)) (setup : List ℕ) (c : Stages) (h : HubContent) → b ≡ true → o ≡ Some setup → (if b then acted_with o (record h { control = c }) else h).ports ≡ (requested setup h).ports
one_acted b o setup c h e f =
    subst (λ v. (if v then acted_with o (record h { control = c }) else h).ports ≡ (requested setup h).ports) (sym e)
    (subst (λ x. (acted_with x (record h { control = c })).ports ≡ (requested setup h).ports) (sym f)
    (effect_ports (request_of h.translators.multi (length h.ports) setup) c h))

pub nothing_acted : (ask : Ask) (out : List ℕ) (h : HubContent) → acts_on (row_at ask out h) h.control.request ≡ None → (hub_answered ask out h).ports ≡ h.ports
nothing_acted ask out h e = none_acted (suits ask h) (acts_on (row_at ask out h) h.control.request) (stages_after (reply_under h) h.control ask out) h e

pub request_acted : (ask : Ask) (out setup : List ℕ) (h : HubContent) → suits ask h ≡ true → acts_on (row_at ask out h) h.control.request ≡ Some setup → (hub_answered ask out h).ports ≡ (requested setup h).ports
request_acted ask out setup h e f = one_acted (suits ask h) (acts_on (row_at ask out h) h.control.request) setup (stages_after (reply_under h) h.control ask out) h e f

unknown_at : (request : Option HubRequest) (h : HubContent) → request ≡ None → effect_if request h ≡ h
unknown_at request h e = subst (λ x. effect_if x h ≡ h) (sym e) refl

pub unknown_same : (setup : List ℕ) (h : HubContent) → request_at setup h ≡ None → requested setup h ≡ h
unknown_same setup h e = unknown_at (request_at setup h) h e
