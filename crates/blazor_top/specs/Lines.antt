-- Lines about words and files.
use Rattle.std.specs.Prelude.{ℕ, List, [], ◌++◌, codes}

-- the line for words that are no command
abbrev pub usage_line : List ℕ
usage_line = codes "usage: blazor COMMAND ARGUMENTS"

-- a line about a file, whose name stands between these words
abbrev pub line_about : List ℕ → List ℕ → List ℕ → List ℕ
line_about before name after = before ++ (name ++ after)

-- the lines about a file of this name
abbrev pub refused_line : List ℕ → List ℕ
refused_line name = line_about (codes "refused NotYet ") name (codes " 1:1")

abbrev pub missing_line : List ℕ → List ℕ
missing_line name = line_about (codes "missing ") name []

abbrev pub unread_line : List ℕ → List ℕ
unread_line name = line_about (codes "unread ") name []

abbrev pub too_large_line : List ℕ → List ℕ
too_large_line name = line_about (codes "too large ") name []
