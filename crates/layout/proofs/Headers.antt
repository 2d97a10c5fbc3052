-- A file's headers and length fix its layout: each number that a header says is spelled by bytes of the header.
-- Assumes nothing.
use mathlib.Core.Path.{◌≡◌, refl, sym, ap, ap₂, ◌∙◌}
use mathlib.Core.Bool.{not}
use mathlib.Core.List.{List, [], ◌∷◌}
use Prim.Native.Nat.{ℕ, zero, suc, ◌+◌, ◌-◌, ◌*◌, ◌≤◌, ◌<◌}
use native.Mathlib.Omega.{arith}
use lib.ListN.{length, get_or, take, drop, length-drop}
use lib.Seq.{get_or-drop}
use Rattle.capture.specs.Capture.{little}
use Rattle.layout.specs.Elf.{number, of_kind, headed, is_core, headers_at, header_count, headers_end, banks_from, banks}
use Rattle.layout.specs.Layout.{layout, whole, SameFrom, SameHeaders, Fixed}

-- the first n elements are the same where each is, also where there are fewer
same_take : (n : ℕ) (l l' : List ℕ) → length l ≡ length l' → ((k : ℕ) → k < n → get_or l' k 0 ≡ get_or l k 0) → take n l ≡ take n l'
same_take zero l l' e same = refl
same_take (suc n) [] [] e same = refl
same_take (suc n) [] (y ∷ l') e same = absurd (omega arith)
same_take (suc n) (x ∷ l) [] e same = absurd (omega arith)
same_take (suc n) (x ∷ l) (y ∷ l') e same =
    ap₂ ◌∷◌ (sym (same 0 (omega arith))) (same_take n l l' (omega arith) (λ k less. same (suc k) (omega arith)))

module _ (file file' : List ℕ) (long : length file ≡ length file') where
  module _ (from to : ℕ) (same : SameFrom file file' from to) where
    same_number : (n at : ℕ) → from ≤ at → at + n ≤ to → number n at file ≡ number n at file'
    same_number n at low high =
        ap little (same_take n (drop at file) (drop at file') (length-drop at file ∙ ap (◌- at) long ∙ sym (length-drop at file'))
        (λ k less.
        let place : at + k ≡ from + (at - from + k) = omega arith in
        simp get_or-drop (rw place (same (at - from + k) (omega arith)))))

    same_banks : (n at : ℕ) → from ≤ at → at + 56 * n ≤ to → banks_from n at file ≡ banks_from n at file'
    unfolding banks_from
    same_banks zero at low high = refl
    same_banks (suc n) at low high =
        rw (
          same_number 4 at low (omega arith),
          same_number 8 (at + 24) (omega arith) (omega arith),
          same_number 8 (at + 8) (omega arith) (omega arith),
          same_number 8 (at + 32) (omega arith) (omega arith),
          same_banks n (at + 56) (omega arith) (omega arith),
        )

  module _ (s : SameHeaders file file') where
    in_header : (n at : ℕ) → at + n ≤ 64 → number n at file ≡ number n at file'
    in_header n at high = same_number 0 64 s.elf n at (omega arith) high

    same_kind : of_kind file ≡ of_kind file'
    unfolding of_kind
    same_kind =
        cc (
          in_header 4 0 (omega arith),
          in_header 1 4 (omega arith),
          in_header 1 5 (omega arith),
          in_header 2 16 (omega arith),
          in_header 2 18 (omega arith),
          in_header 2 54 (omega arith),
        )

    same_at : headers_at file ≡ headers_at file'
    same_at = in_header 8 32 (omega arith)

    same_count : header_count file ≡ header_count file'
    same_count = in_header 2 56 (omega arith)

    all_banks : banks file ≡ banks file'
    all_banks =
        same_banks (headers_at file) (headers_end file) s.program (header_count file) (headers_at file) (omega arith) (omega arith)
        ∙ ap₂ (λ n at. banks_from n at file') same_count same_at

    same_headed : headed file ≡ headed file'
    unfolding headed
    same_headed = cc (long, same_kind, same_at, same_count)

    same_core : is_core file ≡ is_core file'
    unfolding is_core
    same_core = cc (long, same_headed, same_at, same_count, all_banks)

pub headers_fix : (file file' : List ℕ) → Fixed file file'
unfolding layout
headers_fix file file' =
    record {
      of_raw = λ base long. record { length = long; layout = ap (whole base) long };
      of_core = λ long s.
          record { length = long; layout = ap₂ (λ c l. record { unreadable = not c; banks = l }) (same_core file file' long s) (all_banks file file' long s) };
    }
