-- `serving::serve` meets its contract: each kind's own promise is the profile's answer to what the frame reads as. Assumes nothing.
use mathlib.Core.Path.{sym}
use native.Mathlib.Omega.{arith}
use borrow.Author.Rules.{rules}
use Rattle.request_reader.proofs.ByCase.{install_within, list_within}
use Rattle.octets.proofs.ByteBounds.{below_256}
use Rattle.decisions.specs.Decisions.{awaited, installed}
use Rattle.removals.proofs.Cleared.{removed, cancelled}
use Rattle.queries.proofs.Untouched.{list_keeps, info_keeps, list_same, info_same}
use Rattle.serving.proofs.Served.{served_at, served}
use Rattle.serving.proofs.serve.Goals as goal

pub returns-in-Setup : goal.returns-in-Setup
returns-in-Setup c = served_at c.requires.2 _ c.in-Setup.is c.set_up.ensures

pub install-requires : goal.install-requires
install-requires c =
    let w = install_within c.args.frame.now c.args.asked.now c.requires.2 _ _ _ c.in-Install.is in
    (c.requires.0, record { few = w.few; some_payload = w.least; short = w.most; inside = omega (arith, w.ends) })

pub returns-in-Install : goal.returns-in-Install
returns-in-Install c = served c.requires.2 _ c.in-Install.is (omega arith) c.install.ensures

pub returns-in-Enable : goal.returns-in-Enable
returns-in-Enable c = served c.requires.2 _ c.in-Enable.is (omega arith) c.enable.ensures

pub returns-in-Remove : goal.returns-in-Remove
returns-in-Remove c = served c.requires.2 _ c.in-Remove.is (omega arith) (removed _ (rw c.number.ensures.is at (c.clear.ensures installed (λ q b e. search rules))))

pub returns-in-Cancel : goal.returns-in-Cancel
returns-in-Cancel c = served c.requires.2 _ c.in-Cancel.is (omega arith) (cancelled _ (rw c.number-in-Cancel.ensures.is at (c.clear-in-Cancel.ensures awaited (λ q b e. search rules))))

pub handle_list-requires : goal.handle_list-requires
handle_list-requires c =
    let w = list_within c.args.frame.now c.args.asked.now c.requires.2 _ _ _ c.in-List.is in
    (record { whole = c.requires.0.whole; well = c.requires.0.well; room = c.requires.0.room }, w.few, omega (arith, w.ends))

pub returns-in-List : goal.returns-in-List
returns-in-List c =
    let kept = list_keeps c.args.table.now (below_256 c.args.table.now (search rules)) c.requires.0.whole c.requires.0.well _ _ in
    served c.requires.2 _ c.in-List.is (omega arith) (record { table_is = sym kept; reply_is = c.handle_list.ensures; change_is = list_same c.args.table.now _ _ })

pub returns-in-Info : goal.returns-in-Info
returns-in-Info c =
    let kept = info_keeps c.args.table.now (below_256 c.args.table.now (search rules)) c.requires.0.whole c.requires.0.well _ in
    served c.requires.2 _ c.in-Info.is (omega arith) (record { table_is = sym kept; reply_is = c.info.ensures; change_is = info_same c.args.table.now _ })

pub returns-in-Retrieve : goal.returns-in-Retrieve
returns-in-Retrieve c = served c.requires.2 _ c.in-Retrieve.is (omega arith) c.lend.ensures

pub returns-in-Rek : goal.returns-in-Rek
returns-in-Rek c = served c.requires.2 _ c.in-Rek.is (omega arith) c.lend-in-Rek.ensures
