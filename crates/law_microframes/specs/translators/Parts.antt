-- The parts of an isochronous OUT come in turn (USB 2.0, 11.18.4; EHCI 1.0, 3.4.4 and 4.12.3): what events leave of its entry.
--     EachOf P k es        P holds of each entry with this key
--     Lacks, IsEven        an entry lacks its last part; none came in this microframe
--     IsOnce k es          at most one entry has this key
--     PartsGoOn            an OUT that is still active after a part leaves its entry lacking its last
--     OtherStartsLeave P   a start of another key leaves P of its entry
--     CompletesLeave P     so does each complete-split
--     FoundLacks           the entry that the key finds lacks its last part, and none came in this microframe
--     WorkLeavesLacking    the work of a microframe leaves it lacking
--     WorkMakesEven        .. and after it none came
use Rattle.std.specs.Prelude.{◌≡◌, ℕ, ◌==◌, true, false, List, Some}
use Rattle.std.specs.List.{AllByRecursion, find}
use Rattle.usb_base.specs.declared.packets.Ask.{Ask}
use Rattle.usb_base.specs.declared.packets.Reply.{Reply}
use Rattle.hub_keys.specs.Keys.{key_of, is_same_key}
use Rattle.hub_keys.specs.declared.key.Key.{Key}
use Rattle.itd_sitd.specs.declared.sitd.Sitd.{Sitd}
use Rattle.hc_iso.specs.Sitd.{sitd_after, sitd_transaction}
use Rattle.tt_pipeline.specs.declared.entry.Entry.{Entry}
use Rattle.tt_pipeline.specs.Answers.{completed}
use Rattle.tt_pipeline.specs.Starting.{has_key, is_there, without, started}
use Rattle.tt_pipeline.specs.Working.{turned_all}
use Rattle.law_microframes.specs.time.SitdParts.{IsInParts}

abbrev pub EachOf : (Entry → Type 0) → Key → List Entry → Type 0
EachOf P k es = AllByRecursion (λ e. has_key k e ≡ true → P e) es

abbrev pub Lacks : Entry → Type 0
Lacks e = e.came.whole ≡ false

abbrev pub IsEven : Entry → Type 0
IsEven e = e.came ≡ e.before

abbrev pub IsOnce : Key → List Entry → Type 0
IsOnce k es = is_there k (without k es) ≡ false

abbrev pub key_asked : Sitd → Key
key_asked v = key_of (sitd_transaction v).ask

abbrev pub PartsGoOn : Type 0
PartsGoOn = (v : Sitd) (most u stuff : ℕ) (bytes : List ℕ) (reply : Reply) (es : List Entry) → IsInParts v most → v.active ≡ true
    → v.dir_in ≡ false → (sitd_after u reply v).active ≡ true → IsOnce (key_asked v) es
    → ((v.c_prog == 0) ≡ false → EachOf Lacks (key_asked v) es)
    → EachOf Lacks (key_asked v) (started (sitd_transaction v).ask bytes stuff es)

abbrev pub OtherStartsLeave : (Entry → Type 0) → Type 0
OtherStartsLeave P = (k : Key) (ask : Ask) (bytes : List ℕ) (stuff : ℕ) (es : List Entry)
    → is_same_key (key_of ask) k ≡ false → EachOf P k es → EachOf P k (started ask bytes stuff es)

abbrev pub WorkLeavesLacking : Type 0
WorkLeavesLacking = (k : Key) (room : ℕ) (replies : List Reply) (es : List Entry) → EachOf Lacks k es
    → EachOf Lacks k (turned_all room replies es)

abbrev pub WorkMakesEven : Type 0
WorkMakesEven = (k : Key) (room : ℕ) (replies : List Reply) (es : List Entry) → EachOf IsEven k (turned_all room replies es)

abbrev pub CompletesLeave : (Entry → Type 0) → Type 0
CompletesLeave P = (k asked : Key) (es : List Entry) → EachOf P k es → EachOf P k (completed asked es)

abbrev pub FoundLacks : Type 0
FoundLacks = (k : Key) (es : List Entry) (e : Entry) → EachOf Lacks k es → EachOf IsEven k es → find (has_key k) es ≡ Some e
    → (e.came.whole ≡ false) × (e.came ≡ e.before)
