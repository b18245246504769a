-- What the translators of all hubs have of a key, and what is asked for it (USB 2.0, 11.14).
--     HubsHave                    one translator of one hub has this of the key
--     AreRightHubs                all asks that were put into the hubs are so
--     IsOfKind                    what is asked of the key's endpoint is of its kind
use Rattle.std.specs.Prelude.{◌≡◌, ℕ, zero, suc, Bool, true, false, List, [], ◌∷◌}
use Rattle.usb_base.specs.declared.packets.Ask.{Ask}
use Rattle.usb_base.specs.declared.packets.Pid.{Pid}
use Rattle.usb_base.specs.declared.packets.Pid.TheVariants as Pids
use Rattle.hub_keys.specs.Keys.{direction_of}
use Rattle.hub_keys.specs.declared.key.Key.{Key}
use Rattle.hub_class.specs.HubContent.{HubContent}
use Rattle.law_translated.specs.Lift.{Way}
use Rattle.law_translated.specs.KeySlots.{KeySlot}
use Rattle.law_translated.specs.KeyHubs.{HaveNone, HasAt}
use Rattle.law_below_hubs.specs.RightAsks.{AllRight}

abbrev pub HubsHaveNone : Way → Key → List HubContent → Type 0
HubsHaveNone way k [] = Unit {0}
HubsHaveNone way k (h ∷ hs) = HaveNone way k h.translators.all × HubsHaveNone way k hs

-- the translator at this place of the hub at this place has this of the key, and no other one has the key
abbrev pub HubsHave : Way → Key → ℕ → ℕ → List HubContent → KeySlot → Type 0
HubsHave way k hub place [] s = ⊥
HubsHave way k zero place (h ∷ hs) s = HasAt way k place h.translators.all s × HubsHaveNone way k hs
HubsHave way k (suc hub) place (h ∷ hs) s = HaveNone way k h.translators.all × HubsHave way k hub place hs s

abbrev pub AreRightHubs : (Ask → Type 0) → List HubContent → Type 0
AreRightHubs right [] = Unit {0}
AreRightHubs right (h ∷ hs) = AllRight right h.translators.all × AreRightHubs right hs

-- what is asked of the key's endpoint in its direction is of its kind
abbrev pub IsOfKind : Key → Ask → Type 0
IsOfKind k ask = direction_of ask.pid ≡ k.dir → ask.addr ≡ k.addr → ask.ep ≡ k.ep → ask.kind ≡ k.kind

-- a data packet's toggle, by its PID (8.3.1)
abbrev pub is_second : Pid → Bool
is_second Pids.Data1 = true
is_second _ = false
