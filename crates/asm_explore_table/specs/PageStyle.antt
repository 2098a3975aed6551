-- Definition. How the page of a run looks.
--     style     the lines of its style sheet
--               Colours are light or dark, as the reader's system has them. The heads of the table
--               stay in view, and the numbers of the steps do; each group of columns has a line
--               before it. A value that a step changes stands on a ground of its own, and one that
--               it doesn't is grey. The line above the last step of a fault is red
use Rattle.std.specs.Prelude.{ℕ, List, ◌++◌, codes}

abbrev pub colours : List ℕ
colours =
    codes ":root{color-scheme:light dark;--ink:#1c1c1a;--soft:#6f6f69;--line:#dddcd4}\n"
    ++ (codes ":root{--back:#fcfcf9;--mark:#fde9b8;--bad:#c6322b}\n"
    ++ (codes "@media (prefers-color-scheme:dark){\n"
    ++ (codes ":root{--ink:#e6e5df;--soft:#96958e;--line:#3a3a37}\n"
    ++ (codes ":root{--back:#1b1b1a;--mark:#57470f;--bad:#ff7a70}\n"
    ++ codes "}\n"))))

abbrev pub text_style : List ℕ
text_style =
    codes "body{margin:2rem;font:14px/1.45 system-ui,sans-serif}\n"
    ++ (codes "body{color:var(--ink);background:var(--back)}\n"
    ++ (codes "h1{margin:0;font-size:1.15rem}\n"
    ++ (codes "h1.bad{color:var(--bad)}\n"
    ++ (codes "p{margin:.3rem 0;color:var(--soft)}\n"
    ++ (codes "code,th,td{font:13px/1.45 ui-monospace,monospace}\n"
    ++ codes "h1,code{overflow-wrap:anywhere;white-space:pre-wrap}\n")))))

abbrev pub table_style : List ℕ
table_style =
    codes "table{margin:1rem 0;border-spacing:0}\n"
    ++ (codes "th,td{padding:.15rem .6rem;border-bottom:1px solid var(--line)}\n"
    ++ (codes "th,td{text-align:left;vertical-align:top;white-space:nowrap}\n"
    ++ (codes "thead{position:sticky;top:0;z-index:2}\n"
    ++ (codes "th,.step{background:var(--back)}\n"
    ++ (codes "tr:first-child th{font-weight:600}\n"
    ++ (codes "tr+tr th{color:var(--soft)}\n"
    ++ (codes ".step{position:sticky;left:0;z-index:1;text-align:right;color:var(--soft)}\n"
    ++ (codes ".group{border-left:1px solid var(--line)}\n"
    ++ (codes ".same{color:var(--soft)}\n"
    ++ (codes ".new{background:var(--mark);font-weight:600}\n"
    ++ codes "tr.bad td{border-top:2px solid var(--bad)}\n"))))))))))

unfoldable pub style : List ℕ
style = colours ++ (text_style ++ table_style)
