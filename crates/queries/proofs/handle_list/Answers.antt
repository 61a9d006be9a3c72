-- `queries::handle_list` meets its contract: the handles put, and the head in front of them. Assumes nothing.
use Prim.Native.Nat.{ℕ}
use mathlib.Core.Path.{◌≡◌}
use mathlib.Core.List.{List, ◌++◌}
use native.Mathlib.Omega.{arith}
use lib.ListN.{length, take, drop}
use Rattle.profile.specs.Bytes.{Bytes, pieces}
use Rattle.profile.specs.Sizes.{hash_size}
use Rattle.profile.specs.Table.{slots_of}
use Rattle.profile.specs.Agent.{listed}
use Rattle.list_replies.specs.Listed.{holding}
use Rattle.octets.proofs.Copying.{pieces_first}
use Rattle.queries.proofs.Closing.{few_found, closed_whole, closed_short}
use borrow.Author.Rules.{rules}
use Rattle.queries.proofs.handle_list.Goals as goal

-- how many handles a query's list has, and the buffer with those that fit
abbrev Put : List Bytes → Bytes → ℕ → ℕ → Bytes → Bytes → Type 0
Put q t found most d b = (found ≡ length (listed q (slots_of t))) × (d ≡ holding (take most (listed q (slots_of t))) b)

-- the query's array begins with the n hashes that stand in the frame
asked : (t d b s : Bytes) (n found most : ℕ) (query rest : List Bytes) → query ≡ pieces hash_size n s ++ rest → Put (take n query) t found most d b
    → Put (pieces hash_size n s) t found most d b
asked t d b s n found most query rest e put = rw (pieces_first hash_size n s query rest e) at put

pub close_list-requires : goal.close_list-requires
close_list-requires c =
    let a = c.args in
    let put = asked a.table.now _ a.reply.now (drop a.at a.frame.now) a.hashes _ _ _ _ c.hashes_at-query.ensures c.put_handles-found.ensures in
    (few_found _ _ c.requires.0 a.limit _ _ put.0, search rules)

pub close_list-requires-else-found-most : goal.close_list-requires-else-found-most
close_list-requires-else-found-most c =
    let a = c.args in
    let put = asked a.table.now _ a.reply.now (drop a.at a.frame.now) a.hashes _ _ _ _ c.hashes_at-query.ensures c.put_handles-found.ensures in
    (omega (arith, few_found _ _ c.requires.0 a.limit _ _ put.0), search rules)

pub returns-then-found-most : goal.returns-then-found-most
returns-then-found-most c =
    let a = c.args in
    let put = asked a.table.now _ a.reply.now (drop a.at a.frame.now) a.hashes _ _ _ _ c.hashes_at-query.ensures c.put_handles-found.ensures in
    closed_whole _ _ c.requires.0 a.limit _ _ _ _ put.0 c.most_handles-most.ensures put.1 c.if-found-most.true _ c.close_list.ensures

pub returns-else-found-most : goal.returns-else-found-most
returns-else-found-most c =
    let a = c.args in
    let put = asked a.table.now _ a.reply.now (drop a.at a.frame.now) a.hashes _ _ _ _ c.hashes_at-query.ensures c.put_handles-found.ensures in
    closed_short _ _ c.requires.0 a.limit _ _ _ _ put.0 c.most_handles-most.ensures put.1 c.if-found-most.false _ c.close_list-else-found-most.ensures
