-- What a browser may do with an answer (Content Security Policy Level 3).
use Rattle.std.specs.Prelude.{ℕ, List, codes}

-- it loads and runs nothing for it (6.1.3), and no page shows it in a frame (6.4.2)
abbrev pub loads_nothing : List ℕ
loads_nothing = codes "default-src 'none'; frame-ancestors 'none'"
