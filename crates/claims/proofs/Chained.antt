-- The check of a pair answers what is so: of accepted volumes the headers that are compared are those of the readings. Assumes nothing.
use Rattle.std.specs.Prelude.{Ok, Err}
use Prim.Native.Nat.{ℕ, suc, ◌≤◌}
use mathlib.Core.Path.{◌≡◌, refl, sym, ap, ◌∙◌, subst}
use mathlib.Core.Bool.{Bool, true, false, cond}
use mathlib.Core.List.{List}
use native.Mathlib.Omega.{arith}
use lib.ListN.{length}
use Rattle.number.specs.Number.{Bytes}
use Rattle.format.specs.Headers.{Header}
use Rattle.format.specs.Readings.{Reading, ReadingOf}
use Rattle.volume.specs.inner.Check.{check_answer}
use Rattle.volume.specs.Answers.{Verdict}
use Rattle.volume.proofs.Passed.{header_passed}
use Rattle.volume.proofs.HeaderImage.{header_at}
use Rattle.chain.specs.Pairing.{follows, paired, pair_answer}
use Rattle.chain.specs.Answers.{Pairing}
use Rattle.chain.proofs.Accepted.{accepted_header}
use Rattle.chain.proofs.Following.{Following, follows_iff}
use Rattle.chain.specs.declared.PairFault.TheVariants.{FirstRefused, SecondRefused, DoesNotFollow}
use Rattle.claims.specs.Library.{ours}
use Rattle.claims.specs.Demand3Reading.{IsAccepted}
use Rattle.claims.specs.Chained.{FollowsOn, Says, PairClaim}
use Rattle.claims.proofs.Demand3Reading.{given, reading_gives, demand_3_reading_holds}

-- a volume with a reading shows the reading's header
pub header_shown : (volume : List ℕ) (reading : Reading) → length volume ≤ 16777216 → ReadingOf volume reading
    → header_at volume ≡ reading.header
header_shown volume reading small r = (given volume reading _ (reading_gives volume reading small r)).same_header

-- what follows by its reading follows by its bytes
pub by_the_bytes : {first second : List ℕ} → FollowsOn first second → Following first second
by_the_bytes {first} {second} f =
    let a : header_at first ≡ f.earlier.header = header_shown first f.earlier f.first_within f.first_read in
    let b : header_at second ≡ f.later.header = header_shown second f.later f.second_within f.second_read in
    record {
      same_id = ap (λ (h : Header). h.id) b ∙ f.same_id ∙ sym (ap (λ (h : Header). h.id) a);
      next_number = ap (λ (h : Header). h.sequence) b ∙ f.next_number ∙ sym (ap (λ (h : Header). suc h.sequence) a);
      hash_of_first = ap (λ (h : Header). h.previous) b ∙ f.hash_of_first;
    }

-- a volume with a reading is accepted
pub accepted : (volume : List ℕ) (reading : Reading) → Bytes volume → length volume ≤ 16777216 → ReadingOf volume reading
    → IsAccepted ours volume
accepted volume reading b small r = (demand_3_reading_holds volume b small).accepted_iff_it_has_a_reading.1 (reading, r)

-- an accepted volume is within the limit and has a reading
record Accepts (volume : List ℕ) : Type 0 where
  pub within : length volume ≤ 16777216
  pub reading : Reading
  pub is_reading : ReadingOf volume reading

accepts : (volume : List ℕ) → Bytes volume → IsAccepted ours volume → Accepts volume
accepts volume b a =
    let within : length volume ≤ 16777216 = (header_passed volume (accepted_header volume a.0 a.1).0).small in
    let r = (demand_3_reading_holds volume b within).accepted_iff_it_has_a_reading.0 a in
    record { within = within; reading = r.0; is_reading = r.1 }

module _ (first second : List ℕ) (b : Bytes first) (c : Bytes second) where
  -- and of two accepted volumes what follows by its bytes follows by its reading
  by_the_readings : IsAccepted ours first → IsAccepted ours second → Following first second → FollowsOn first second
  by_the_readings p q f =
      let x : Accepts first = accepts first b p in
      let y : Accepts second = accepts second c q in
      let g : header_at first ≡ x.reading.header = header_shown first x.reading x.within x.is_reading in
      let h : header_at second ≡ y.reading.header = header_shown second y.reading y.within y.is_reading in
      record {
        first_within = x.within;
        second_within = y.within;
        earlier = x.reading;
        later = y.reading;
        first_read = x.is_reading;
        second_read = y.is_reading;
        same_id = sym (ap (λ (h : Header). h.id) h) ∙ f.same_id ∙ ap (λ (h : Header). h.id) g;
        next_number = sym (ap (λ (h : Header). h.sequence) h) ∙ f.next_number ∙ ap (λ (h : Header). suc h.sequence) g;
        hash_of_first = sym (ap (λ (h : Header). h.previous) h) ∙ f.hash_of_first;
      }

  test_true : FollowsOn first second → follows first second ≡ true
  test_true f = (follows_iff first second).1 (by_the_bytes f)

  -- what is answered is so
  is_so : Says ours first second (pair_answer first second)
  unfolding pair_answer paired
  is_so = go (check_answer first) (check_answer second) (follows first second) refl refl refl
    where
      go : (p q : Verdict) (t : Bool) → check_answer first ≡ p → check_answer second ≡ q → follows first second ≡ t
          → Says ours first second (paired p q t)
      go (Err r) q t e f h = e
      go (Ok x) (Err r) t e f h = ((x, e), f)
      go (Ok x) (Ok y) true e f h = by_the_readings (x, e) (y, f) ((follows_iff first second).0 h)
      go (Ok x) (Ok y) false e f h =
          ((x, e), (y, f), λ on. let t = test_true on in let z : ◌≡◌ {A = ℕ} 0 1 = cc in omega arith)

  -- and what is so is answered
  answered : (answer : Pairing) → Says ours first second answer → pair_answer first second ≡ answer
  unfolding pair_answer paired
  answered (Err (FirstRefused r)) e = rw e
  answered (Err (SecondRefused r)) (p, f) = rw (p.1, f)
  answered (Ok tt) f =
      rw (
        (accepted first f.earlier b f.first_within f.first_read).1,
        (accepted second f.later c f.second_within f.second_read).1,
        test_true f,
      )
  answered (Err DoesNotFollow) (p, q, not_so) = rw (p.1, q.1) (go (follows first second) refl)
    where
      go : (t : Bool) → follows first second ≡ t → cond {A = Pairing} t (Ok tt) (Err DoesNotFollow) ≡ Err DoesNotFollow
      go true h = absurd (not_so (by_the_readings p q ((follows_iff first second).0 h)))
      go false h = refl

pub pairs_hold : PairClaim ours pair_answer
pairs_hold first second b c answer =
    ((λ e. subst (Says ours first second) e (is_so first second b c)), answered first second b c answer)
