-- The list of kind 8 closed by its head: the agent's reply. Assumes nothing.
use Prim.Native.Nat.{ℕ, ◌≤◌, ◌<◌}
use mathlib.Core.Path.{◌≡◌, refl, sym, ◌∙◌}
use mathlib.Core.List.{List}
use mathlib.Core.Bool.{Bool, true, false}
use native.Mathlib.Nat.{min-eq_left, min-eq_right}
use native.Mathlib.Omega.{arith}
use lib.Dec.{eqb, ltb}
use lib.ListN.{length, take}
use lib.Seq.{take_all, length-take-le}
use borrow.Author.Tests.{lt-ltb, le-ltb}
use Rattle.profile.specs.Bytes.{Bytes, over}
use Rattle.profile.specs.Sizes.{most_slots, handle_size}
use Rattle.profile.specs.Table.{slots_of}
use Rattle.profile.specs.Request.{list}
use Rattle.profile.specs.Agent.{listed, fitting, act}
use Rattle.list_replies.specs.Listed.{holding, list_start}
use Rattle.list_replies.proofs.Growing.{list_closed}
use Rattle.decisions.specs.Serving.{Ready}
use Rattle.queries.specs.Query.{reply_to, most_of}
use Rattle.queries.proofs.ListedSlots.{each_take, each_handle, few_listed_in}

-- ---- how many of at most as many handles as slots fit
module _ (limit n : ℕ) (few : n ≤ most_slots) where
  pub all_fit : n ≤ most_of limit → fitting limit n ≡ n
  all_fit h = go (eqb limit 0) refl
    where
      go : (b : Bool) → eqb limit 0 ≡ b → fitting limit n ≡ n
      go true e = rw e
      go false e = rw e (min-eq_left (rw e at h))

  pub most_fit : most_of limit < n → fitting limit n ≡ most_of limit
  most_fit h = go (eqb limit 0) refl
    where
      go : (b : Bool) → eqb limit 0 ≡ b → fitting limit n ≡ most_of limit
      go true e = absurd (omega (arith, rw e at h))
      go false e = rw e (min-eq_right (omega (arith, rw e at h)))

-- ---- the reply
module _ (t b : Bytes) (ready : Ready t b) (limit : ℕ) (q : List Bytes) where
  abbrev hs : List Bytes
  hs = listed q (slots_of t)

  few : length hs ≤ most_slots
  few = few_listed_in t q ready.whole ready.well

  pub few_found : (found : ℕ) → found ≡ length hs → found ≤ most_slots
  few_found found e = omega (arith, few)

  -- n handles of the list fit and are in the buffer, and the byte in front of them says whether the list has more
  closed : (n : ℕ) (more : Bool) → n ≤ length hs → fitting limit (length hs) ≡ n → ltb n (length hs) ≡ more
      → {d r : Bytes} → d ≡ holding (take n hs) b → r ≡ over (list_start n more) d → r ≡ reply_to 8 (list limit q) t b
  unfolding act
  closed n more some fits says held start =
      list_closed (take n hs) n b (each_take handle_size n hs (each_handle t q ready.whole ready.well)) (length-take-le n hs some) (omega (arith, few, ready.room)) more (slots_of t) held start
      ∙ rw (fits, says)

  -- the number of handles found, the number that fits, the buffer with the handles, and the buffer closed
  module _ (found most : ℕ) (d : Bytes) (e-found : found ≡ length hs) (e-most : most ≡ most_of limit) (e-d : d ≡ holding (take most hs) b) where
    pub closed_whole : found ≤ most → (r : Bytes) → r ≡ over (list_start found false) d → r ≡ reply_to 8 (list limit q) t b
    closed_whole h r e =
        let all_there : take most hs ≡ take found hs = take_all most hs (omega arith) ∙ sym (take_all found hs (omega arith)) in
        closed found false (omega arith) (all_fit limit (length hs) few (omega arith) ∙ sym e-found) (le-ltb found (length hs) (omega arith)) (rw all_there at e-d) e

    pub closed_short : most < found → (r : Bytes) → r ≡ over (list_start most true) d → r ≡ reply_to 8 (list limit q) t b
    closed_short h r e =
        let below : most < length hs = omega arith in
        closed most true (omega arith) (most_fit limit (length hs) few (omega arith) ∙ sym e-most) (lt-ltb most (length hs) below) e-d e
