-- Inner page: a fault by its number.
use Rattle.std.specs.Prelude.{ℕ, ◌≡◌, refl, cond, eqb}
use Rattle.refusal.specs.Faults.{number_of}
use Rattle.refusal.specs.declared.Fault.{Fault}
use Rattle.refusal.specs.declared.Fault.TheVariants.{TooLarge, CutShort, MagicWrong, VersionUnknown, ChecksumWrong, HashNotZero, IdUnknown, OutOfPlace, OverLimit, NotText, RuleBroken, RangesOverlap, LinkTwice, TimeLower, NotRegularFile, NotThere, RoomTooSmall, Stray, DoesNotFollow, TooDeep}

-- any number that no other fault has is that of the last
abbrev pub fault_of : (number : ℕ) → Fault
fault_of number =
    cond (eqb number 1) TooLarge (
    cond (eqb number 2) CutShort (
    cond (eqb number 3) MagicWrong (
    cond (eqb number 4) VersionUnknown (
    cond (eqb number 5) ChecksumWrong (
    cond (eqb number 6) HashNotZero (
    cond (eqb number 7) IdUnknown (
    cond (eqb number 8) OutOfPlace (
    cond (eqb number 9) OverLimit (
    cond (eqb number 10) NotText (
    cond (eqb number 11) RuleBroken (
    cond (eqb number 12) RangesOverlap (
    cond (eqb number 13) LinkTwice (
    cond (eqb number 14) TimeLower (
    cond (eqb number 15) NotRegularFile (
    cond (eqb number 16) NotThere (
    cond (eqb number 17) RoomTooSmall (
    cond (eqb number 18) Stray (
    cond (eqb number 23) DoesNotFollow (
    TooDeep)))))))))))))))))))

-- Each fault has a number of its own. A proof among definitions, since the code's law `inverse_ok` cites it, and code cites only specs.
pub fault_of-number : (fault : Fault) → fault_of (number_of fault) ≡ fault
fault_of-number TooLarge = refl
fault_of-number CutShort = refl
fault_of-number MagicWrong = refl
fault_of-number VersionUnknown = refl
fault_of-number ChecksumWrong = refl
fault_of-number HashNotZero = refl
fault_of-number IdUnknown = refl
fault_of-number OutOfPlace = refl
fault_of-number OverLimit = refl
fault_of-number NotText = refl
fault_of-number RuleBroken = refl
fault_of-number RangesOverlap = refl
fault_of-number LinkTwice = refl
fault_of-number TimeLower = refl
fault_of-number NotRegularFile = refl
fault_of-number NotThere = refl
fault_of-number RoomTooSmall = refl
fault_of-number Stray = refl
fault_of-number DoesNotFollow = refl
fault_of-number TooDeep = refl
