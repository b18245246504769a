-- A round goes on where links go on leading down with the same heights, and whoever could be reached can be.
use Rattle.std.proofs.Common.{◌≡◌, ℕ, ◌*◌, Bool, true, List, Some, ap, sym, ◌∙◌}
use Rattle.law_ring.proofs.Common.{same_cursor}
use Rattle.word_mem.specs.Memory.{Mem, word_at}
use Rattle.link_words.specs.Links.{link_read}
use Rattle.op_registers.specs.RegisterFile.{RegisterFile}
use Rattle.async_walk.specs.Walk.{Walk}
use Rattle.async_walk.specs.Rows.{cursor_link}
use Rattle.drv_chains.proofs.Linking.{weaken}
use Rattle.drv_table.specs.DriverContent.{DriverContent}
use Rattle.drv_table.specs.Words.{queue_head_link}
use Rattle.claims_driver.specs.Ring.{link_in}
use Rattle.claims_driver.specs.Walk.{IsReached}
use Rattle.law_driver_ring.proofs.lemmas.walk_members.Decoding.{link_decoded}
use Rattle.law_driver_ring.proofs.lemmas.walk_members.Driving.{Reaches}
use Rattle.law_queues.specs.reached_rings.Reaching.{is_reached, ReachedAt}
use Rattle.law_queues.proofs.lemmas.reached_rings.Computing.{reached_is_reached, is_reached_reached}
use Rattle.law_microframes.specs.visits.Ranks.{name_of, next_of}
use Rattle.law_microframes.specs.time.Heights.{LinksFall}
use Rattle.law_microframes.specs.time.Rounds.{link_from, IsBehind}

-- ---- links

-- the word of a link to a queue head
pub link_name : (b : ℕ) → name_of (link_read (queue_head_link b)) ≡ Some (32 * b)
unfolding link_read
link_name b = ap name_of (link_decoded b)

pub next_by : (m : Mem) (n b : ℕ) → n ≡ 32 * b → next_of m n ≡ name_of (link_read (link_in m b))
next_by m n b at = ap (λ (a : ℕ). name_of (link_read (word_at m a))) at

pub next_is : (m : Mem) (n b to : ℕ) → n ≡ 32 * b → link_in m b ≡ queue_head_link to → next_of m n ≡ Some (32 * to)
next_is m n b to at leads = next_by m n b at ∙ ap (λ (v : ℕ). name_of (link_read v)) leads ∙ link_name to

-- ---- whom the walk may reach

pub reached_at : (d : DriverContent) (rings : Bool) (n b : ℕ) → n ≡ 32 * b → IsReached d rings b → is_reached d rings n ≡ true
reached_at d rings n b at reached = ap (is_reached d rings) at ∙ is_reached_reached d rings b reached

pub reached_on : (d f : DriverContent) (rings later : Bool) → Reaches d rings f later → (n : ℕ) → is_reached d rings n ≡ true → is_reached f later n ≡ true
reached_on d f rings later on n is =
    let at : ReachedAt d rings n = reached_is_reached d rings n is in
    reached_at f later n at.block at.at (on at.block at.reached)

-- ---- links lead down

pub falls_on : (m mem : Mem) (d f : DriverContent) (rings later : Bool) (height : ℕ → ℕ) → LinksFall m d rings height → Reaches f later d rings
    → ((n : ℕ) → is_reached f later n ≡ true → next_of mem n ≡ next_of m n) → LinksFall mem f later height
falls_on m mem d f rings later height old back same = record {
  falls = λ n k on leads other. old.falls n k (reached_on f d later rings back n on) (sym (same n on) ∙ leads) other;
  below_head = λ n on other. old.below_head n (reached_on f d later rings back n on) other;
}

pub same_links : (m mem : Mem) (f : DriverContent) (later : Bool) → ((b : ℕ) → IsReached f later b → link_in mem b ≡ link_in m b) → (n : ℕ) → is_reached f later n ≡ true
    → next_of mem n ≡ next_of m n
same_links m mem f later words n on =
    let at : ReachedAt f later n = reached_is_reached f later n on in
    next_by mem n at.block at.at ∙ ap (λ (v : ℕ). name_of (link_read v)) (words at.block at.reached) ∙ sym (next_by m n at.block at.at)

-- ---- what was visited

pub behind_on : (d f : DriverContent) (height : ℕ → ℕ) (r s : RegisterFile) (walk : Walk) (vs : List ℕ) → IsBehind d height r walk vs → s.async_list_address ≡ r.async_list_address
    → Reaches d r.doorbell f s.doorbell → IsBehind f height s walk vs
behind_on d f height r s walk vs old address on =
    let same : cursor_link s walk.cursor ≡ cursor_link r walk.cursor = same_cursor r s walk.cursor address in
    record {
      falling = old.falling;
      reached = weaken (λ (v : ℕ). is_reached d r.doorbell v ≡ true) (λ (v : ℕ). is_reached f s.doorbell v ≡ true) (reached_on d f r.doorbell s.doorbell on) vs old.reached;
      next = λ k leads other. old.next k (sym (ap (link_from walk.held) same) ∙ leads) other;
      in_hand = λ h held.
          (let n = old.in_hand h held in
          record { before = n.before; newest = n.newest; cursor = same ∙ n.cursor });
    }
