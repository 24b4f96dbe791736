use Rattle.std.proofs.Common.{◌≡◌, ◌+◌, ◌*◌, ◌%◌, ◌∙◌, ℕ, List, [], ◌∷◌, refl, rules}
use Rattle.std.specs.List.{fold}
use Rattle.rules.specs.Numbers.{word_size}
use Rattle.passlog.specs.Spelling.{digit_of, number_from}
use Rattle.passlog.proofs.number.Goals as goal

-- the digits one by one, in std's words
folded : (base v : ℕ) (s : List ℕ) → fold (λ x b. (x * base + digit_of b) % word_size) v s ≡ number_from base v s
unfolding number_from
folded base v [] = refl
folded base v (b ∷ s) = folded base ((v * base + digit_of b) % word_size) s

pub returns : goal.returns
returns c =
    let e : c.fold.result ≡ fold (λ x b. (x * c.args.base + digit_of b) % word_size) 0 c.args.s.now = search rules in
    e ∙ folded c.args.base 0 c.args.s.now
