-- The checks of a block that is asked for find no fault exactly if it keeps the rules. Assumes nothing.
use Prim.Native.Nat.{ℕ, suc, ◌≤◌, ◌<◌}
use mathlib.Core.Path.{◌≡◌}
use mathlib.Core.Bool.{false}
use native.Mathlib.Omega.{arith}
use lib.Dec.{T, ltb}
use lib.ListN.{length}
use borrow.Author.Tests.{ltb-false, eqb-true, not-false, le-ltb}
use Rattle.checks.specs.Checks.{first_fault}
use Rattle.checks.proofs.Laws.{numbered}
use Rattle.checks.proofs.Passed.{Passed, all_passed, no_fault}
use Rattle.checks.proofs.Tests.{eq_neb}
use Rattle.format.specs.Blocks.{Block, Inode, Link, Unlink, Xattr, RemovedXattr, Data, Rename, Table}
use Rattle.format.specs.Blocks.{FileType, file_type, BlockRules}
use Rattle.links.proofs.Tables.{LinksPass, filled_sound, links_fill_bytes, filled_complete}
use Rattle.block.specs.Order.{rest_order}
use Rattle.block.proofs.Passed.{text, RestPassed, rest_numbered, rest_passed, passed_rest, InodePassed}
use Rattle.block.proofs.KindSound.{inode_rules}
use Rattle.block.proofs.KindComplete.{inode_tests}
use Rattle.request.specs.Requests.{request_order}
use Rattle.request.specs.Asking.{Sized}

-- A length that is not over the largest value of its field.

within : (largest n : ℕ) → ltb largest n ≡ false → n < suc largest
within largest n e = let h : n ≤ largest = ltb-false largest n e in omega arith

fits : (largest n : ℕ) → n < suc largest → ltb largest n ≡ false
fits largest n h = le-ltb largest n (omega arith)

-- the checks have numbers above 0
pub request_numbered : (block : Block) → T (numbered (request_order block))
request_numbered (Inode b) = rest_numbered (file_type b.mode) b.size b.rest
request_numbered (Link b) = tt
request_numbered (Unlink b) = tt
request_numbered (Xattr b) = tt
request_numbered (RemovedXattr b) = tt
request_numbered (Data b) = tt
request_numbered (Rename b) = tt
request_numbered (Table b) = tt

-- From the checks to the rules.

passed_rules : (block : Block) → Sized block → Passed (request_order block) → BlockRules block
passed_rules (Inode b) s (few, others) =
    let type : FileType = file_type b.mode in
    let sound : RestPassed type b.size b.rest
    = rest_passed type b.size b.rest (no_fault (rest_order type b.size b.rest) others) in
    record {
      fit = s.fit;
      bytes = s.bytes;
      rules = inode_rules type b.size b.rest s.bytes (record { few = few; sound = sound });
    }
passed_rules (Link b) s (short, (texts, _)) =
    let (time, (child, (parent, _))) = s.fit in
    record { fit = (time, (child, (parent, (within _ _ short, tt)))); bytes = s.bytes; rules = (text _).0 texts }
passed_rules (Unlink b) s (short, (texts, _)) =
    let (time, (child, (parent, _))) = s.fit in
    record { fit = (time, (child, (parent, (within _ _ short, tt)))); bytes = s.bytes; rules = (text _).0 texts }
passed_rules (Xattr b) s (value, (name, (texts, _))) =
    let (time, (inode, _)) = s.fit in
    record { fit = (time, (inode, (within _ _ name, (within _ _ value, tt)))); bytes = s.bytes; rules = (text _).0 texts }
passed_rules (RemovedXattr b) s (short, (texts, _)) =
    let (time, (inode, _)) = s.fit in
    record { fit = (time, (inode, (within _ _ short, tt))); bytes = s.bytes; rules = (text _).0 texts }
passed_rules (Data b) s _ = record { fit = s.fit; bytes = s.bytes; rules = tt }
passed_rules (Rename b) s (old, (new, (first, (second, _)))) =
    record { fit = (s.fit.0, (within _ _ old, (within _ _ new, tt))); bytes = s.bytes; rules = ((text _).0 first, (text _).0 second) }
passed_rules (Table b) s (few, (whole, (texts, (once, _)))) =
    let pass : LinksPass b.links b.count = record { few = ltb-false _ _ few; texts = texts; once = once } in
    record {
      fit = s.fit;
      bytes = s.bytes;
      rules = filled_sound b.links s.bytes b.count (eqb-true _ _ (not-false _ whole)) pass;
    }

pub request_sound : (block : Block) → Sized block → first_fault (request_order block) ≡ 0 → BlockRules block
request_sound block s e = passed_rules block s (all_passed (request_order block) (request_numbered block) e)

-- From the rules to the checks.

pub rules_sized : (block : Block) → BlockRules block → Sized block
rules_sized (Inode b) o = record { fit = o.fit; bytes = o.bytes }
rules_sized (Link b) o = record { fit = omega (arith, o.fit); bytes = o.bytes }
rules_sized (Unlink b) o = record { fit = omega (arith, o.fit); bytes = o.bytes }
rules_sized (Xattr b) o = record { fit = omega (arith, o.fit); bytes = o.bytes }
rules_sized (RemovedXattr b) o = record { fit = omega (arith, o.fit); bytes = o.bytes }
rules_sized (Data b) o = record { fit = o.fit; bytes = o.bytes }
rules_sized (Rename b) o = record { fit = omega (arith, o.fit); bytes = o.bytes }
rules_sized (Table b) o = record { fit = o.fit; bytes = o.bytes }

rules_passed : (block : Block) → BlockRules block → Passed (request_order block)
rules_passed (Inode b) o =
    let type : FileType = file_type b.mode in
    let p : InodePassed type b.size (length b.rest) b.rest = inode_tests type b.size b.rest o.rules in
    let e = passed_rest type b.size b.rest p.sound in
    (p.few, all_passed (rest_order type b.size b.rest) (rest_numbered type b.size b.rest) e)
rules_passed (Link b) o = (fits _ _ o.fit.1.1.1.0, ((text _).1 o.rules, tt))
rules_passed (Unlink b) o = (fits _ _ o.fit.1.1.1.0, ((text _).1 o.rules, tt))
rules_passed (Xattr b) o = (fits _ _ o.fit.1.1.1.0, (fits _ _ o.fit.1.1.0, ((text _).1 o.rules, tt)))
rules_passed (RemovedXattr b) o = (fits _ _ o.fit.1.1.0, ((text _).1 o.rules, tt))
rules_passed (Data b) o = tt
rules_passed (Rename b) o =
    (fits _ _ o.fit.1.0, (fits _ _ o.fit.1.1.0, ((text _).1 o.rules.0, ((text _).1 o.rules.1, tt))))
rules_passed (Table b) o =
    let p : LinksPass b.links b.count = filled_complete o.rules in
    (le-ltb _ _ p.few, (eq_neb _ _ (links_fill_bytes o.rules), (p.texts, (p.once, tt))))

pub request_complete : (block : Block) → BlockRules block → Sized block × (first_fault (request_order block) ≡ 0)
request_complete block o = (rules_sized block o, no_fault (request_order block) (rules_passed block o))
